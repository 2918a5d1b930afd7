-- From the reply's numbers and the report slice to the definition's two lines.
use mathlib.Core.Path.{◌≡◌, refl, ◌∙◌}
use mathlib.Core.List.{List, [], ◌∷◌, ◌++◌}
use Prim.Native.Nat.{ℕ}
use Rattle.definition.specs.Host.{bytes_of, numbers, byte_reply, host_computes}
use Rattle.lines.specs.Lines.{line_of}
use Rattle.replies.specs.declared.Reply.{Reply}
use Rattle.sized.specs.Sized.{Told}
use Rattle.desk.specs.Said.{two_lines, Said, Lines}

-- ## The two lines

pub said : {input : List ℕ} {r : Reply} {s out : List ℕ} {z : ℕ} → Told input 4096 s r → Lines r s out z → Said input out z
unfolding two_lines numbers
said t k = let m = t.numbers in record { is = k.is ∙ rw (t.report, m.code, m.at, m.len, m.units); within = k.within }

-- ## Computed

-- "Case (a) prints `0 0 13 2` and `1 1 0 9 2 0 4 0 0 0 0 1 1`."
pub case_a : two_lines (byte_reply 4096 (bytes_of (7 ∷ 0 ∷ 0 ∷ 3 ∷ 22 ∷ 1 ∷ 0 ∷ 0 ∷ 0 ∷ [])))
    ≡ line_of (0 ∷ 0 ∷ 13 ∷ 2 ∷ []) ++ line_of (1 ∷ 1 ∷ 0 ∷ 9 ∷ 2 ∷ 0 ∷ 4 ∷ 0 ∷ 0 ∷ 0 ∷ 0 ∷ 1 ∷ 1 ∷ [])
unfolding two_lines host_computes
case_a = refl
