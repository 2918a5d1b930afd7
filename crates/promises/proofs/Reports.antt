-- What is handed out of the report slice after a call of the library's entry: the sections and the nodes of the definition's reply.
use mathlib.Core.Path.{◌≡◌, sym, ap, ◌∙◌}
use mathlib.Core.List.{List}
use Prim.Native.Nat.{ℕ}
use lib.ListN.{length, take}
use Rattle.definition.specs.Question.{Question, got, read_question}
use Rattle.definition.specs.Reply.{answer, reply}
use Rattle.definition.specs.Memory.{call}
use Rattle.replies.specs.declared.Reply as program
use Rattle.entry.specs.Entry.{Replied}
use Rattle.sections.specs.declared.Section.{Section}
use Rattle.sections.specs.declared.Section.TheVariants.{Tree}
use Rattle.sections.specs.Sections.{part_of}
use Rattle.sections.specs.Nodes.{stated_in, of_run}
use Rattle.sections.proofs.Reports.{every_reply}
use Rattle.sections.proofs.Trees.{tree_on_zero}

pub after_check : {budget : ℕ} {q w w' s s' : List ℕ} {r : program.Reply} → Replied budget q w w' s s' r → (x : Section)
    → part_of x r.code (take r.len s')
    ≡ part_of x (reply budget (length w) (length s) q).code (reply budget (length w) (length s) q).report
unfolding call
after_check {budget} {q} {w} {w'} {s} a x = rw (a.numbers.code, a.numbers.len, a.report) (every_reply budget (length w) (length s) q x s)

pub tree_after_check : {budget : ℕ} {q w w' s s' : List ℕ} {r : program.Reply} {Q : Question} {p : ℕ} {vs : List ℕ} → read_question q ≡ got Q p vs
    → Replied budget q w w' s s' r → r.code ≡ 0 → stated_in (part_of Tree r.code (take r.len s')) ≡ of_run (answer Q budget 0)
unfolding call
tree_after_check {budget} {q} {w} {s = s} read a h =
    ap stated_in (after_check a Tree ∙ sym (every_reply budget (length w) (length s) q Tree s))
    ∙ tree_on_zero budget (length w) (length s) q s read (sym a.numbers.code ∙ h)
