-- Which drafts are refused, with which cause, and how a cause is told.
use Rattle.std.specs.Prelude.{cond, Some, None, Option, Ok, Err, Result, nat_le}
use Rattle.std.specs.Option.{option_map, option_or}
use Rattle.sheet.specs.declared.draft.Draft.{Draft}
use Rattle.sheet.specs.declared.draft.Refusal.{Refusal}
use Rattle.sheet.specs.declared.draft.Cause.{Cause}
use Rattle.sheet.specs.declared.draft.Cause.TheVariants.{OutsideLimits, ClearedNotBelowFull, FirstFlowOutside}
use Rattle.sheet.specs.Limits.{limits, is_outside, lowest_outside}
use Rattle.sheet.specs.Draft.{figures_of}

-- the number and the figure that a cause is told by
abbrev pub refusal_of : Cause → Refusal
refusal_of (OutsideLimits k) = record { number = 1; figure = k }
refusal_of ClearedNotBelowFull = record { number = 2; figure = 10 }
refusal_of FirstFlowOutside = record { number = 3; figure = 22 }

-- the causes that compare figures with each other, in their order
abbrev pub cause_of_pairs : Draft → Option Cause
cause_of_pairs d =
    cond (nat_le d.queue_full d.queue_cleared) (Some ClearedNotBelowFull)
    (cond (is_outside (d.lowest_flow, d.highest_flow) d.first_flow) (Some FirstFlowOutside) None)

-- the lowest figure outside its limits
abbrev pub cause_of_limits : Draft → Option Cause
cause_of_limits d = option_map OutsideLimits (lowest_outside 1 limits (figures_of d))

-- why a draft is refused, or none where it is accepted: a figure outside its limits comes before any other cause
unfoldable pub cause_of : Draft → Option Cause
cause_of d = option_or (cause_of_limits d) (cause_of_pairs d)

-- the refusal that is due to a draft: its number, 1 to 3, and the figure that it names; none where it is accepted
abbrev pub refusal_due : Draft → Option Refusal
refusal_due d = option_map refusal_of (cause_of d)

-- what a check answers, where a cause is against the draft or none is
abbrev pub checked : Option Cause → Result (Unit {0}) Cause
checked None = Ok tt
checked (Some c) = Err c
