-- The theorems beside those of Main: of the library's entry and the definition, of the count, of orders 2 and 5, of a report's parts, of "alike". Nobody
-- who believes Main needs them; docs/THEOREMS.md says of each what it does not say. Each restates the theorem behind its `=`. Their words stand
-- where Main's do, and besides in crates/laws/specs (Letters, Rings, Codes, OtherBudgets), crates/sections/specs and crates/judging/specs;
-- computed tables in crates/laws/proofs/Cases.antt and crates/alike/proofs/Examples.antt.
use mathlib.Core.Path.{◌≡◌}
use mathlib.Core.Bool.{true, false, ◌||◌}
use mathlib.Core.List.{List, [], ◌∷◌}
use mathlib.Core.Logic.{◌↔◌, ◌≢◌}
use mathlib.Core.Option.{Option, none, some}
use Prim.Native.Nat.{ℕ, ◌-◌, ◌≤◌, ◌<◌}
use lib.ListN.{length, take}
use lib.Dec.{T, eqb}
use Rattle.definition.specs.Syntax as syntax
use Rattle.definition.specs.Syntax.{pick, TyVar, Ty, Ctx, Judgement, tree_words}
use Rattle.definition.specs.Question.{Question, got, fault, read_question}
use Rattle.definition.specs.Run.{Out, done, stop, M}
use Rattle.definition.specs.Types.{same_name, is_mono, apply}
use Rattle.definition.specs.Rules.{ty_code, Letters, same_ty, Result, Here, judge}
use Rattle.definition.specs.Reply.{Reply, refusal, most, result_words, answer, out_reply, reply}
use Rattle.definition.specs.Memory.{Call, call}
use Rattle.definition.specs.Host.{byte_reply}
use Rattle.laws.specs.Letters.{stands, free, renamed}
use Rattle.laws.specs.Codes.{Late, reply_codes, is_one_of, Listed, EndsListed}
use Rattle.laws.specs.OtherBudgets.{Allowed, Settled, at_budget, reply_with, WithEnough}
use Rattle.laws.specs.Count.{charged, Count, count_to, Passes, IsRun}
use Rattle.laws.specs.Rings.{Leads, Ring, Applies}
use Rattle.laws.proofs as laws-proofs
use Rattle.alike.specs.Alike.{Label, IsQuestion, Pairing, itself, type_name, InReplies, InQuestions, Each, AlikeQuestions, AlikeReplies, AlikeCalls, WellFormed}
use Rattle.alike.proofs.WellFormed.{IsFault, alike_itself}
use Rattle.alike.proofs.Changes.{Change, pairing, change}
use Rattle.alike.proofs.Deciding.{labels_of, are_alike, Decided}
use Rattle.alike.proofs.Examples.{All, PairHolds, pairs}
use Rattle.alike.proofs as alike-proofs
use Rattle.layout.specs.declared.Span.{Span}
use Rattle.layout.specs.declared.State.{State}
use Rattle.judging.specs.declared.Ask.{Ask}
use Rattle.judging.specs.declared.Here as judging
use Rattle.judging.specs.Asking.{here, Asks}
use Rattle.judging.specs.Ending.{Step, charge_of, Judged}
use Rattle.judging.proofs as judging-proofs
use Rattle.replies.specs.declared.Reply as program
use Rattle.entry.specs.Entry.{Replied}
use Rattle.sized.proofs as sized-proofs
use Rattle.host.specs.Host.{Answered, Checked, numbers_of}
use Rattle.sections.specs.declared.Section.{Section}
use Rattle.sections.specs.declared.Section.TheVariants.{Tree}
use Rattle.sections.specs.Sections.{part_of}
use Rattle.sections.specs.Outcomes.{of_outcome, handed}
use Rattle.sections.specs.Nodes.{Finds, node_in, stated_in, of_tree, of_run}
use Rattle.sections.proofs as sections-proofs
use Rattle.promises.specs.Common.{SameChecks}
use Rattle.promises.proofs as promises-proofs

-- # Exactly one reply

-- of the library's entry, `Replied` (crates/entry/specs/Entry.antt)
pub one_reply : {budget : ℕ} {q w s w₁ w₂ s₁ s₂ : List ℕ} {r₁ r₂ : program.Reply} → Replied budget q w w₁ s s₁ r₁ → Replied budget q w w₂ s s₂ r₂
    → SameChecks r₁.code r₂.code (numbers_of r₁) (numbers_of r₂) s₁ s₂ w₁ w₂
one_reply = promises-proofs.One.one_reply

-- the desk program reads 8,196 bytes: what stands behind them changes nothing
pub read_enough : (input : List ℕ) → byte_reply 4096 (take 8196 input) ≡ byte_reply 4096 input
read_enough = sized-proofs.Answering.read_enough

-- a reading that fails fails with 4 or 5
pub four_or_five : (ws : List ℕ) {c p : ℕ} → read_question ws ≡ fault c p → IsFault c
four_or_five = alike-proofs.WellFormed.four_or_five

-- # The count, and 6

-- what gets none of 1 to 5 from the definition is run; so is what gets 6
pub late_is_run : (budget work room : ℕ) (ws : List ℕ) → Late (reply budget work room ws).code → (q : Question) × IsRun budget work ws q
late_is_run = alike-proofs.Refusals.late_is_run

pub six_is_run : (budget work room : ℕ) (ws : List ℕ) → (reply budget work room ws).code ≡ 6 → (q : Question) × IsRun budget work ws q
six_is_run = alike-proofs.Refusals.six_is_run

-- of a call that is run: 6 exactly where the count passes the budget; the same with the count as far as a bound; units are the count
module _ {budget work : ℕ} {ws : List ℕ} {q : Question} (run : IsRun budget work ws q) (room : ℕ) where
  abbrev R : Reply
  R = reply budget work room ws

  pub six_exactly_past_count : {c : Option ℕ} → Count (answer q) 0 c → (R.code ≡ 6 → Passes c budget) × (Passes c budget → R ≡ refusal 6 0 budget)
  six_exactly_past_count c = laws-proofs.Count.six_exactly_past_count run c room

  pub six_exactly_past_count_to : (most : ℕ) → budget ≤ most
      → (R.code ≡ 6 → Passes (count_to most q) budget) × (Passes (count_to most q) budget → R ≡ refusal 6 0 budget)
  six_exactly_past_count_to most h = laws-proofs.Count.six_exactly_past_count_to run most h room

  pub units_are_the_count : R.code ≢ 6 → Count (answer q) 0 (some R.units)
  units_are_the_count = laws-proofs.Count.units_are_the_count run room

-- of every run: its count decides whether the budget l is enough
pub out_exactly_past_count : {A : Type 0} {m : M A} {n : ℕ} {c : Option ℕ} → Count m n c → (l : ℕ) → (m l n ≡ stop) ↔ Passes c l
out_exactly_past_count = laws-proofs.Count.out_exactly_past_count

-- where one budget is enough, what it was charged is the count: of a question, of a judgement
pub question_counted : (q : Question) (most u : ℕ) → count_to most q ≡ some u → Count (answer q) 0 (some u)
question_counted = laws-proofs.Count.question_counted

pub judgement_counted : (h : Here) (j : Judgement) (l n u : ℕ) → charged l (judge h j l n) ≡ some u → Count (judge h j) n (some u)
judgement_counted = laws-proofs.Count.judgement_counted

-- "Each judgement returns its charge, proved equal to the definition's count": in the program's words, z is what its function returns
-- (crates/judging/specs)
pub charge_is_count : {h : judging.Here} {q w w₁ : List ℕ} {s : State} {g : Span} {a : Ask} {z : Step} → Judged h q w w₁ s g a z
    → {j : Judgement} → Asks q w s.top g a j → {u : ℕ} → charge_of z ≡ some u → Count (judge (here h) j) s.fresh (some u)
charge_is_count = judging-proofs.Whole.charge_is_count

-- "A solution that leads back to itself therefore ends in 6": where the run of a question, with the budget l, applies Γ to A, and A leads to a
-- ring in Γ, the reply is 6 at every allowed budget up to l; the question has no count as far as l, and the application none at all
pub ring_gets_6 : {Γ : Ctx} {a : TyVar} {A : Ty} → Ring Γ a → Leads Γ a A → {q : Question} {l : ℕ} → Applies Γ A Result (answer q) l 0
    → {budget work : ℕ} {ws : List ℕ} → IsRun budget work ws q → budget ≤ l → (room : ℕ) → reply budget work room ws ≡ refusal 6 0 budget
ring_gets_6 = laws-proofs.Rings.ring_gets_6

module _ {Γ : Ctx} {a : TyVar} {A : Ty} (ring : Ring Γ a) (leads : Leads Γ a A) where
  pub ring_has_no_count : (q : Question) {l : ℕ} → Applies Γ A Result (answer q) l 0 → count_to l q ≡ none
  ring_has_no_count = laws-proofs.Rings.ring_has_no_count ring leads

  pub application_has_no_count : (n : ℕ) → Count (apply Γ A) n none
  application_has_no_count = laws-proofs.Rings.application_has_no_count ring leads

-- at every allowed budget: document 01's example; a ring of two; a ring that the run makes
module _ (budget work room : ℕ) (allowed : Allowed budget work) where
  pub endless : reply budget work room (2 ∷ 0 ∷ 4 ∷ 35 ∷ 1 ∷ 4 ∷ 1 ∷ 3 ∷ 22 ∷ 1 ∷ 0 ∷ 0 ∷ 2 ∷ 4 ∷ 1 ∷ []) ≡ refusal 6 0 budget
  endless = laws-proofs.Endless.endless budget work room allowed

  pub ring_of_two :
      reply budget work room (2 ∷ 0 ∷ 10 ∷ 35 ∷ 1 ∷ 4 ∷ 2 ∷ 35 ∷ 2 ∷ 5 ∷ 1 ∷ 4 ∷ 1 ∷ 3 ∷ 22 ∷ 1 ∷ 0 ∷ 0 ∷ 2 ∷ 4 ∷ 1 ∷ []) ≡ refusal 6 0 budget
  ring_of_two = laws-proofs.Endless.ring_of_two budget work room allowed

  pub ring_made : reply budget work room (5 ∷ 0 ∷ 2 ∷ 34 ∷ 1 ∷ 0 ∷ 2 ∷ 4 ∷ 1 ∷ 5 ∷ 5 ∷ 4 ∷ 1 ∷ 4 ∷ 1 ∷ []) ≡ refusal 6 0 budget
  ring_made = laws-proofs.Endless.ring_made budget work room allowed

-- # Order 2

-- what strict parameters are compared by is an equality; on types without Forall, name for name
pub reflexive : (A : Ty) → same_ty [] A A ≡ true
reflexive = laws-proofs.Letters.reflexive

pub symmetric : (A B : Ty) → same_ty [] A B ≡ true → same_ty [] B A ≡ true
symmetric = laws-proofs.Letters.symmetric

pub transitive : (A B C : Ty) → same_ty [] A B ≡ true → same_ty [] B C ≡ true → same_ty [] A C ≡ true
transitive = laws-proofs.Letters.transitive

pub name_for_name : (A B : Ty) → is_mono A ≡ true → (same_ty [] A B ≡ true) ↔ (A ≡ B)
name_for_name = laws-proofs.Letters.name_for_name

-- a bound name may be renamed to one that stands nowhere under its Forall; which of two names is bound cannot be exchanged, where either is free
-- under the Forall; types of two forms are not equal, Var and ETVar among them
pub renaming : (a b : TyVar) (A : Ty) → stands b A ≡ false → same_ty [] (syntax.forall a A) (syntax.forall b (renamed a b A)) ≡ true
renaming = laws-proofs.Letters.renaming

pub exchanging : (a b : TyVar) (A : Ty) → same_name a b ≡ false → (free a A || free b A) ≡ true → same_ty [] (syntax.forall a A) (syntax.forall b A) ≡ false
exchanging = laws-proofs.Letters.exchanging

pub other_forms : (ls : Letters) (A B : Ty) → ty_code A ≢ ty_code B → same_ty ls A B ≡ false
other_forms = laws-proofs.Letters.other_forms

-- # Order 5

-- every reply's code is listed: it is in document 01's table, without 8, which is the telephone host's, and 16
pub every_code : (budget work room : ℕ) (q : List ℕ) → Listed (reply budget work room q).code
every_code = alike-proofs.Refusals.every_code

-- so is what both functions return, but for the telephone host's 8
pub check_code : {budget : ℕ} {q w w' s s' ns : List ℕ} {r : ℕ} → Checked budget q w w' s s' ns r → Listed r
check_code = promises-proofs.Never16.check_code

pub answer_code : {b s s' : List ℕ} {r : ℕ} → Answered b s s' r → T (is_one_of r (8 ∷ reply_codes))
answer_code = promises-proofs.Never16.answer_code

-- a judgement, and what a question asks, in any mode, with any budget l and n fresh names taken: no type error whose code is not listed
pub judgement_listed : (h : Here) (j : Judgement) (l n : ℕ) → EndsListed (judge h j l n)
judgement_listed = laws-proofs.Never16.judgement_listed

pub answer_listed : (q : Question) (l n : ℕ) → EndsListed (answer q l n)
answer_listed = laws-proofs.Never16.answer_listed

-- the same question at two budgets that are allowed, with as much room. Whatever the code: at the smaller one the larger one's reply, where the
-- smaller budget is no less than that reply's units, else 6 (`at_budget`)
pub at_smaller_budget : {budget work budget' work' : ℕ} (room : ℕ) (ws : List ℕ) → Allowed budget work → Allowed budget' work' → budget' ≤ budget
    → reply budget' work' room ws ≡ at_budget budget' (reply budget work room ws)
at_smaller_budget = laws-proofs.OtherBudgets.at_smaller_budget

-- where one of them gets none of 1, 2 and 6: the same reply at every larger one; at any, the same from its units on, and 6 exactly below
module _ (budget work room : ℕ) (ws : List ℕ) {budget' work' : ℕ} (settled : Settled (reply budget work room ws).code) (there : Allowed budget' work') where
  is_allowed : Allowed budget work
  is_allowed = laws-proofs.OtherBudgets.settled_allowed budget work room ws settled

  pub same_at_larger_budget : budget ≤ budget' → reply budget' work' room ws ≡ reply budget work room ws
  same_at_larger_budget = laws-proofs.OtherBudgets.same_at_larger_budget budget work room ws is_allowed settled.not_6 there

  pub at_budget_lem : reply budget' work' room ws ≡ at_budget budget' (reply budget work room ws)
  at_budget_lem = laws-proofs.OtherBudgets.at_budget_lem budget work room ws is_allowed settled.not_6 there

  pub six_exactly_below_its_units : ((reply budget' work' room ws).code ≡ 6) ↔ (budget' < (reply budget work room ws).units)
  six_exactly_below_its_units = laws-proofs.OtherBudgets.six_exactly_below_its_units budget work room ws is_allowed settled.not_6 there

-- a run with any budgets at all, past 8,192 too
module _ (q : Question) (room : ℕ) {b b' : ℕ} where
  pub run_at_smaller_budget : b' ≤ b → reply_with b' room q ≡ at_budget b' (reply_with b room q)
  run_at_smaller_budget = laws-proofs.OtherBudgets.run_at_smaller_budget q room

  pub run_same_at_larger_budget : (reply_with b room q).code ≢ 6 → b ≤ b' → reply_with b' room q ≡ reply_with b room q
  run_same_at_larger_budget = laws-proofs.OtherBudgets.run_same_at_larger_budget q room

-- with any budgets and rooms that are enough a question gets one reply at most, and so one report; what a call gives that is run, other than 6
-- and 7, is that one
pub one_with_enough : {q : Question} {R R' : Reply} → WithEnough q R → WithEnough q R' → R ≡ R'
one_with_enough = laws-proofs.OtherBudgets.one_with_enough

pub with_enough : {budget work : ℕ} {ws : List ℕ} {q : Question} → IsRun budget work ws q → (room : ℕ)
    → (reply budget work room ws).code ≢ 6 → (reply budget work room ws).code ≢ 7 → WithEnough q (reply budget work room ws)
with_enough = laws-proofs.OtherBudgets.with_enough

-- and so is every result of a run, with whatever budget it was come to
pub accepted_with_enough : (q : Question) (budget : ℕ) {left names : ℕ} {r : Result} → answer q budget 0 ≡ done r left names
    → length (result_words q.kind r) ≤ most
    → WithEnough q (record { code = 0; at = 0; len = length (result_words q.kind r); units = budget - left; report = result_words q.kind r })
accepted_with_enough = laws-proofs.OtherBudgets.accepted_with_enough

-- # A report's sections, "the part of the caller's report slice it fills, count excluded, empty where there is none", and its tree's nodes

-- `handed x R s` is what is handed out as section x after the reply R from the slice s (crates/sections/specs/Outcomes.antt). Whatever the slice
-- held, it is a section of the reply's own report
pub every_reply : (budget work room : ℕ) (q : List ℕ) (x : Section) (s : List ℕ)
    → handed x (reply budget work room q) s ≡ part_of x (reply budget work room q).code (reply budget work room q).report
every_reply = sections-proofs.Reports.every_reply

-- by how the run came out: nothing on 7, else that outcome's own section
pub every_outcome : (k budget room : ℕ) (o : Out Result) (x : Section) (s : List ℕ)
    → handed x (out_reply k budget room o) s ≡ pick (eqb (out_reply k budget room o).code 7) [] (of_outcome k o x)
every_outcome = sections-proofs.Reports.every_outcome

-- nothing after a refusal
pub after_refusal : (c p u : ℕ) (x : Section) (s : List ℕ) → handed x (refusal c p u) s ≡ []
after_refusal = sections-proofs.Reports.after_refusal

-- `node_in` is the node at a place of any words, `stated_in` the nodes that a walk meets (crates/sections/specs/Nodes.antt): what is met stands
-- there, and where nothing is met no node does
pub finds : (ws : List ℕ) (at : ℕ) → Finds ws at (node_in ws at)
finds = sections-proofs.Nodes.finds

-- a walk through a tree's words meets its nodes in the tree's order
pub tree_met : (t : syntax.Tree) → stated_in (tree_words t) ≡ of_tree t
tree_met = sections-proofs.Nodes.tree_met

-- the same of what is handed out as the tree: by how the run came out, and on code 0
pub every_tree : (k budget room : ℕ) (o : Out Result) (s : List ℕ)
    → stated_in (handed Tree (out_reply k budget room o) s) ≡ pick (eqb (out_reply k budget room o).code 7) [] (of_run o)
every_tree = sections-proofs.Trees.every_tree

pub tree_on_zero : (budget work room : ℕ) (q s : List ℕ) {Q : Question} {p : ℕ} {vs : List ℕ} → read_question q ≡ got Q p vs
    → (reply budget work room q).code ≡ 0 → stated_in (handed Tree (reply budget work room q) s) ≡ of_run (answer Q budget 0)
tree_on_zero = sections-proofs.Trees.tree_on_zero

-- a section, and the tree's nodes, after a call of the library's entry
module _ {budget : ℕ} {q w w' s s' : List ℕ} {r : program.Reply} (a : Replied budget q w w' s s' r) where
  pub after_check : (x : Section)
      → part_of x r.code (take r.len s') ≡ part_of x (reply budget (length w) (length s) q).code (reply budget (length w) (length s) q).report
  after_check = promises-proofs.Reports.after_check a

  pub tree_after_check : {Q : Question} {p : ℕ} {vs : List ℕ} → read_question q ≡ got Q p vs → r.code ≡ 0
      → stated_in (part_of Tree r.code (take r.len s')) ≡ of_run (answer Q budget 0)
  tree_after_check read = promises-proofs.Reports.tree_after_check read a

-- # Demand 3 of the definition: replies, and calls with what they leave in memory; only well-formed questions are alike

module _ {P : Pairing} {ws ws' : List ℕ} (h : AlikeQuestions P ws ws') where
  pub alike : (budget work room : ℕ) → AlikeReplies P (reply budget work room ws) (reply budget work room ws')
  alike = alike-proofs.Demand3.alike h

  pub calls_alike : (budget : ℕ) (work slice : List ℕ) → AlikeCalls P (call budget ws work slice) (call budget ws' work slice)
  calls_alike = alike-proofs.Demand3.calls_alike h

  pub well_formed : WellFormed ws × WellFormed ws'
  well_formed = alike-proofs.Demand3.well_formed h

module _ {ws ws' : List ℕ} (h : AlikeQuestions itself ws ws') where
  pub no_literal : (budget work room : ℕ) → reply budget work room ws ≡ reply budget work room ws'
  no_literal = alike-proofs.Demand3.no_literal h

  pub no_literal_call : (budget : ℕ) (work slice : List ℕ) → call budget ws work slice ≡ call budget ws' work slice
  no_literal_call = alike-proofs.Demand3.no_literal_call h

-- on 1 to 7 the report slices are the same
pub refused_same : {P : Pairing} {c c' : Call} → AlikeCalls P c c' → 1 ≤ c.answered.code → c.answered.code ≤ 7 → c.report_slice ≡ c'.report_slice
refused_same = alike-proofs.Demand3.refused_same

-- a question, and the same with names and literals changed, get replies alike
pub replies_changed : (c : Change) {ws : List ℕ} (h : WellFormed ws) (budget work room : ℕ)
    → AlikeReplies (pairing c) (reply budget work room ws) (reply budget work room (change c (alike_itself h).labels ws))
replies_changed = alike-proofs.Changes.replies_changed

-- a test that computes decides whether two lists of words are alike under some pairing
pub decided : (u u' : List ℕ) → Decided (are_alike u u') u u'
decided = alike-proofs.Deciding.decided

-- a question has one list of labels
pub labelled : {P : Pairing} {s : List Label} {ws ws' : List ℕ} → IsQuestion s → Each (InQuestions P) s ws ws' → labels_of ws ≡ s
labelled = alike-proofs.Deciding.labelled

-- a fresh name pairs with itself alone
pub fresh_alone : {P : Pairing} {a b : ℕ} → InReplies P type_name a b → (1_000_000 ≤ a → a ≡ b) × (1_000_000 ≤ b → a ≡ b)
fresh_alone = alike-proofs.Examples.fresh_alone

-- a table of pairs that are alike or not, with their replies; case (a) with any number for its literal
pub each_pair : All PairHolds pairs
each_pair = alike-proofs.Examples.each_pair

pub a_literal : (low high budget work room : ℕ)
    → reply budget work room (7 ∷ 0 ∷ 0 ∷ 3 ∷ 22 ∷ 1 ∷ 0 ∷ 0 ∷ 0 ∷ []) ≡ reply budget work room (7 ∷ 0 ∷ 0 ∷ 3 ∷ 22 ∷ low ∷ high ∷ 0 ∷ 0 ∷ [])
a_literal = alike-proofs.Examples.a_literal
