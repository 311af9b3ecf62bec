-- The words that a field can hold.
use Rattle.std.specs.Prelude.{ℕ, Bool, cond, List, Some, None, codes, Option}
use Rattle.std.specs.Option.{option_map}
use Rattle.std.specs.Str.{bytes_eq}
use Rattle.plan.specs.declared.row.HeadKind.{HeadKind}
use Rattle.plan.specs.declared.row.HeadKind.TheVariants.{Relay, Current}
use Rattle.plan.specs.declared.row.Word.{Word}
use Rattle.plan.specs.declared.row.Word.TheVariants.{Lit, Given}
use Rattle.plan.specs.declared.words.BaseWord.{BaseWord}
use Rattle.plan.specs.declared.words.BaseWord.TheVariants.{Alinea, Plan}
use Rattle.plan.specs.declared.words.StrategyWord.{StrategyWord}
use Rattle.plan.specs.declared.words.StrategyWord.TheVariants.{Limiter, Of}
use Rattle.plan.specs.Decimal.{decimal}

-- whether this is the text
abbrev pub reads : List ℕ → List ℕ → Bool
reads t w = bytes_eq w t

-- the word of the lamps: `ok` or a number
abbrev pub word_of : List ℕ → Option Word
word_of t = cond (reads t (codes "ok")) (Some Lit) (option_map Given (decimal t))

abbrev pub head_of : List ℕ → Option HeadKind
head_of t = cond (reads t (codes "relay")) (Some Relay) (cond (reads t (codes "current")) (Some Current) None)

abbrev pub base_of : List ℕ → Option BaseWord
base_of t = cond (reads t (codes "alinea")) (Some Alinea) (cond (reads t (codes "plan")) (Some Plan) None)

-- a limiter, or a strategy that has none below it
abbrev pub strategy_word_of : List ℕ → Option StrategyWord
strategy_word_of t = cond (reads t (codes "limiter")) (Some Limiter) (option_map Of (base_of t))
