-- The monotype mark: a word keeps a number below 4,096 and, with 4,096 more, a yes.
use Rattle.std.specs.Prelude.{Bool, List, ℕ, ◌+◌, ◌-◌, ◌%◌, leb, ltb, get_or}
use Rattle.definition.specs.Syntax.{pick}
use Rattle.layout.specs.Sizes.{BASE, ENDS, MONO}

-- the word that keeps both
unfoldable pub with_mono : ℕ → Bool → ℕ
with_mono n b = pick b (n + MONO) n

-- what the word at i keeps
abbrev pub number_at : List ℕ → ℕ → ℕ
number_at w i = get_or w i 0 % MONO

abbrev pub mono_at : List ℕ → ℕ → Bool
mono_at w i = leb MONO (get_or w i 0)

-- the place past the item that stands at p of the question, by the table of ends
abbrev pub past : List ℕ → ℕ → ℕ
past w p = number_at w (ENDS + p)

-- a type reference's mark: with the type's end where it stands in the question, else with its record's code
unfoldable pub mono_of : List ℕ → ℕ → Bool
mono_of w r = pick (ltb r BASE) (mono_at w (ENDS + r)) (mono_at w (r - BASE))
