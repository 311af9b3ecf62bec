-- The row that names a strategy.
use Rattle.std.specs.Prelude.{ℕ, Ok, Result}
use Rattle.plan.specs.declared.row.Base.{Base}
use Rattle.plan.specs.declared.row.Base.TheVariants.{Alinea, Hourly}
use Rattle.plan.specs.declared.row.Limits.TheVariants.{Unlimited, Once, Twice}
use Rattle.plan.specs.declared.fault.RowFault.{RowFault}
use Rattle.plan.specs.declared.row.StrategyRow.{StrategyRow}
use Rattle.plan.specs.declared.fault.Wanted.TheVariants.{Number, Strategy as AStrategy, Base as ABase}
use Rattle.plan.specs.declared.words.BaseWord.{BaseWord}
use Rattle.plan.specs.declared.words.BaseWord.TheVariants.{Alinea as AlineaWord, Plan}
use Rattle.plan.specs.declared.words.StrategyWord.{StrategyWord}
use Rattle.plan.specs.declared.words.StrategyWord.TheVariants.{Limiter, Of}
use Rattle.plan.specs.Decimal.{decimal}
use Rattle.plan.specs.Fields.{Numbered, past}
use Rattle.plan.specs.Several.{exactly}
use Rattle.plan.specs.Values.{value_at, end_at, given}
use Rattle.plan.specs.Words.{base_of, strategy_word_of}

-- behind `alinea` stands nothing, and behind `plan` stand 24 numbers
abbrev pub base_as : BaseWord → Numbered → Result Base RowFault
base_as AlineaWord fs = given (end_at fs) (λ _. Ok Alinea)
base_as Plan fs = given (exactly decimal Number 24 fs) (λ cs. Ok (Hourly cs))

-- behind the second limiter: its step, and a strategy that has none below it
abbrev pub twice_of : ℕ → Numbered → Result StrategyRow RowFault
twice_of d fs =
    given (value_at decimal Number fs) (λ e.
    given (value_at base_of ABase (past fs)) (λ w.
    given (base_as w (past (past fs))) (λ b.
    Ok (record { limits = Twice d e; base = b }))))

abbrev pub once_as : ℕ → StrategyWord → Numbered → Result StrategyRow RowFault
once_as d Limiter fs = twice_of d fs
once_as d (Of w) fs = given (base_as w fs) (λ b. Ok (record { limits = Once d; base = b }))

-- behind the first limiter: its step, and a strategy or once more a limiter
abbrev pub limited_of : Numbered → Result StrategyRow RowFault
limited_of fs =
    given (value_at decimal Number fs) (λ d.
    given (value_at strategy_word_of AStrategy (past fs)) (λ w.
    once_as d w (past (past fs))))

abbrev pub strategy_as : StrategyWord → Numbered → Result StrategyRow RowFault
strategy_as Limiter fs = limited_of fs
strategy_as (Of w) fs = given (base_as w fs) (λ b. Ok (record { limits = Unlimited; base = b }))

-- a strategy or a limiter
abbrev pub strategy_of : Numbered → Result StrategyRow RowFault
strategy_of fs = given (value_at strategy_word_of AStrategy fs) (λ w. strategy_as w (past fs))
