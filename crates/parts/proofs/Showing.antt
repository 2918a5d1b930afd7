-- From the reply's numbers, the sections of the report slice and a walk through its tree to the definition's seven lines.
use mathlib.Core.Path.{◌≡◌, refl, sym, ◌∙◌}
use mathlib.Core.List.{List, [], ◌∷◌, ◌++◌, map, append-nil}
use Prim.Native.Nat.{ℕ, ◌+◌, ◌-◌, ◌*◌, ◌≤◌, ◌<◌}
use native.Mathlib.Omega.{arith}
use native.Mathlib.Numerals.{add-one}
use lib.ListN.{length, set, take, length-set}
use lib.Seq.{take-suc-set, append_snoc}
use Rattle.definition.specs.Host.{bytes_of, numbers, byte_reply, host_computes}
use Rattle.lines.specs.Lines.{line_of, PutBytes}
use Rattle.replies.specs.declared.Reply.{Reply}
use Rattle.sized.specs.Sized.{Told}
use Rattle.sections.specs.declared.Section.{Section}
use Rattle.sections.specs.declared.Section.TheVariants.{Ty, Context, Tree, First, Second}
use Rattle.sections.specs.declared.Node.{Node}
use Rattle.std.specs.Prelude.{Option, None, Some}
use Rattle.sections.specs.Sections.{part_of}
use Rattle.sections.specs.Nodes.{node_in, nodes_from, nodes_in, rules_in, nodes_compute}
use Rattle.sections.proofs.Reports.{written_only, part_short}
use Rattle.sections.proofs.Nodes.{met_past, walk_ends, walk_goes_on}
use Rattle.parts.specs.Shown.{five, six_lines, seven_lines, PartsSaid, part_in, PartLine, SectionLines, RulesOf, RuleLine}

-- ## One section's line

module _ (r : Reply) (x : Section) (s : List ℕ) {words : List ℕ} (is : words ≡ part_in r s x) (long : length s ≡ 4096) where
  pub words_short : length words ≤ 4096
  words_short = rw is (omega (arith, part_short x r.code r.len s))

  pub part_line : {o o' : List ℕ} {at z : ℕ} → (PutBytes o o' at (line_of words) z) × (z ≤ at + 11 * length words + 1) → PartLine r x s o o' at z
  part_line w = record { wrote = rw is at w.0; short = omega (arith, w.1, words_short) }

-- ## The rules' line

-- the rules of the nodes from a place on
abbrev rules_from : List ℕ → ℕ → List ℕ
rules_from ws at = map (λ (N : Node). N.rule) (nodes_from (length ws) ws at)

-- n of them were met before the place
pub record Listed (ws rules : List ℕ) (at n : ℕ) : Type 0 where
  pub sofar : rules_in ws ≡ take n rules ++ rules_from ws at
  pub within : at ≤ length ws
  pub few : 8 * n ≤ at
  pub room : length ws ≤ 8 * length rules

pub none_listed : (ws rules : List ℕ) → length ws ≤ 8 * length rules → Listed ws rules 0 0
unfolding rules_in nodes_in
none_listed ws rules h = record { sofar = refl; within = omega arith; few = omega arith; room = h }

module _ {ws rules : List ℕ} {at n : ℕ} (l : Listed ws rules at n) {z : Option Node} (is : z ≡ node_in ws at) where
  pub all_listed : z ≡ None → RulesOf ws rules n
  all_listed h = record {
    is = sym (l.sofar ∙ rw (walk_ends ws at (sym is ∙ h)) (append-nil (take n rules)));
    within = omega (arith, l.within, l.few, l.room);
  }

  module _ {N : Node} (h : z ≡ Some N) where
    past : (at + 8 ≤ N.end) × (N.end ≤ length ws)
    past = met_past ws at (sym is ∙ h)

    pub room_listed : n < length rules
    room_listed = omega (arith, l.few, l.room, past)

    pub less_left : length ws - N.end < length ws - at
    less_left = omega (arith, past)

    pub one_listed : Listed ws (set rules n N.rule) N.end (n + 1)
    one_listed = record {
      sofar =
          l.sofar ∙ rw (walk_goes_on ws at (sym is ∙ h), add-one n, take-suc-set rules n N.rule room_listed)
          (sym (append_snoc (take n rules) N.rule (rules_from ws N.end)));
      within = past.1;
      few = omega (arith, l.few, past);
      room = rw (length-set rules n N.rule) l.room;
    }

-- ## The definition's lines

-- the definition's sections, in a slice whose first words are its report
part_told : {input : List ℕ} {r : Reply} {s : List ℕ} → Told input 4096 s r → (x : Section)
    → part_in r s x ≡ part_of x (byte_reply 4096 input).code (byte_reply 4096 input).report
part_told {r = r} {s} t x = written_only x r.code r.len s ∙ rw (t.report, t.numbers.code)

five_same : {f g : Section → List ℕ} → ((x : Section) → f x ≡ g x) → five f ≡ five g
five_same h = rw (h Ty, h Context, h Tree, h First, h Second)

pub shown : {input : List ℕ} {r : Reply} {s out out' : List ℕ} {y z : ℕ} → Told input 4096 s r → SectionLines r s out y → RuleLine r s out out' y z
    → z ≤ length out' → PartsSaid input out' z
unfolding seven_lines six_lines numbers
shown {s = s} {out} {y = y} t k w l = let m = t.numbers in record {
  is = w.wrote.is ∙ rw (k.is, five_same (part_told t), part_told t Tree, m.code, m.at, m.len, m.units);
  within = l;
}

-- case (a): its numbers, a type, no context, a tree, no types of an error, and rule 2, InfLitInt
pub case_a : seven_lines (byte_reply 4096 (bytes_of (7 ∷ 0 ∷ 0 ∷ 3 ∷ 22 ∷ 1 ∷ 0 ∷ 0 ∷ 0 ∷ [])))
    ≡ (line_of (0 ∷ 0 ∷ 13 ∷ 2 ∷ []) ++ (line_of (1 ∷ []) ++ (line_of [] ++ (line_of (2 ∷ 0 ∷ 4 ∷ 0 ∷ 0 ∷ 0 ∷ 0 ∷ 1 ∷ 1 ∷ []) ++ (line_of [] ++ line_of [])))))
    ++ line_of (2 ∷ [])
unfolding seven_lines six_lines host_computes nodes_compute
case_a = refl
