-- A station as it is opened.
use Rattle.std.specs.Prelude.{ℕ, false, [], None}
use Rattle.lamps.specs.declared.colour.Colour.TheVariants.{Dark}
use Rattle.control.specs.declared.stage.Stage.TheVariants.{Standby}
use Rattle.control.specs.declared.command.Mode.TheVariants.{Local}
use Rattle.control.specs.Model.{Model}

-- standby, local mode, not wanted, no centre's cycle, the head restored and dark, all counts 0
abbrev pub fresh : {S : Type 0} → S → (ℕ → ℕ) → Model S
fresh s shows =
    record {
      strategy = s;
      readings = [];
      command = record { mode = Local; wanted = false; centre_cycle = None };
      queue = record { over = 0; under = 0 };
      counts = record { seconds = 0; periods = 0; openings = 0; shown = 0 };
      stage = Standby;
      colour = Dark;
      is_cut = false;
      shows = shows;
    }
