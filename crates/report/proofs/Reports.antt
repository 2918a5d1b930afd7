-- Results and type errors by their parts, and what becomes of a report.
use mathlib.Core.Path.{◌≡◌, refl, sym, ◌∙◌, ap}
use mathlib.Core.Bool.{Bool, true, false}
use mathlib.Core.List.{List, ◌++◌, append-nil}
use Prim.Native.Nat.{ℕ, ◌+◌, ◌≤◌, ◌^◌}
use native.Mathlib.Omega.{arith}
use lib.ListN.{length, drop}
use lib.Seq.{sets-eq}
use Rattle.std.specs.Prelude.{Option, Result as Outcome, Ok, Err}
use Rattle.std.specs.Bool.{then_some}
use Rattle.definition.specs.Syntax.{pick, Ty, section, no_section, ty_section, leaf, ◌&◌, tree_words, Shown}
use Rattle.definition.specs.Rules.{Result}
use Rattle.definition.specs.Reply.{error_words, gives_type, result_words}
use Rattle.layout.specs.Denotes.{Den}
use Rattle.judging.specs.Ending.{ShownAt, shown_none, shown_one, shown_two}
use Rattle.judging.specs.declared.Answer.{Answer}
use Rattle.judging.specs.declared.Shown as program
use Rattle.writing.specs.Spelling.{Spells, AfterCount, Long, Spelled, RoomAt, Writable, Writes}
use Rattle.writing.specs.Types.{OfPart}
use Rattle.writing.proofs.Spelling.{join}
use Rattle.report.specs.declared.NoRoom.{NoRoom}
use Rattle.report.specs.Nodes.{OfNodes}
use Rattle.report.specs.Reports.{ResultAt, OfResult, ResultParts, slots_of, ErrorParts, ByLength, fits, too_long, Reported, reported, no_room, Reports}
use Rattle.report.proofs.Nodes.{context_section, type_section, unused_section}

-- ## A result: three sections

-- a type's section, where a type is given
given_section : {q w : List ℕ} {t r : ℕ} {A : Ty} (b : Bool) → Den q w t r A
    → AfterCount (OfPart q w t (then_some b r)) (pick b (ty_section A) no_section)
unfolding pick
given_section true d = type_section d
given_section false d = unused_section

tree_section : {q w : List ℕ} {a : Answer} {high : ℕ} {r : Result} → ResultAt q w a high r
    → AfterCount (OfNodes q w a.st.top a.st.low high) (section (tree_words r.2))
unfolding tree_words
tree_section {r = r} x = record {
  inner = tree_words r.2;
  spelled = record { it = r.2 & leaf; stands = record { nodes = x.nodes; within = x.within }; is = sym (append-nil (tree_words r.2)) };
  is = refl;
}

pub result_parts : {q w : List ℕ} {high : ℕ} {gives : Bool} {ty : Option ℕ} {a : Answer} (kind : ℕ) → ty ≡ then_some gives a.ty
    → gives ≡ gives_type kind → (ws : List ℕ) → OfResult q w kind a high ws → ResultParts q w a.st.top ty a high ws
unfolding result_words
result_parts kind f e ws x =
    let y = x.stands in
    rw (x.is, f, e) (join _ _ (given_section (gives_type kind) y.den) (join _ _ (context_section y.run) (tree_section y)))

-- ## A type error: two sections

pub error_parts : {q w : List ℕ} {t : ℕ} {p : program.Shown} {s : Option ℕ × Option ℕ} → s ≡ slots_of p → (ws : List ℕ)
    → Spells (ShownAt q w t p) error_words ws → ErrorParts q w t s ws
unfolding error_words
error_parts {q} {w} {t} f ws x = rw (x.is, f) (go x.stands)
  where
    go : {p : program.Shown} {h : Shown} → ShownAt q w t p h → ErrorParts q w t (slots_of p) (error_words h)
    go shown_none = join _ _ unused_section unused_section
    go (shown_one d) = join _ _ (type_section d) unused_section
    go (shown_two d k) = join _ _ (type_section d) (type_section k)

-- ## What becomes of a report

pub reports_as : {S S' : List ℕ → Type 0} {s s' : List ℕ} {z : Outcome ℕ NoRoom} → ((ws : List ℕ) → S ws → S' ws) → Reports S' s s' z
    → Reports S s s' z
reports_as f k = record { is = λ ws x. k.is ws (f ws x) }

module _ {S : List ℕ → Type 0} {n : ℕ} (l : Long (2 ^ 32) S n) {s : List ℕ} where
  pub refused : {e : NoRoom} → ByLength n (length s) (Err e) → Reports S s s (Err e)
  refused (too_long f g) = record { is = λ ws x. let k = l.is ws x in no_room (λ a b. omega (arith, f (omega arith))) (omega arith) refl }

  has_room : {m : ℕ} → ByLength n (length s) (Ok m) → (ws : List ℕ) → S ws → RoomAt s 0 ws
  has_room (fits a b) ws x = let k = l.is ws x in record { room = omega arith; small = omega arith }

  pub writable : {q w : List ℕ} {t m : ℕ} → Spelled q w t S → ByLength n (length s) (Ok m) → Writable q w t S s 0
  writable x o = record { spelled = x; room = has_room o x.words x.says }

  pub written : {s' : List ℕ} {y m : ℕ} → ByLength n (length s) (Ok m) → Writes S s s' 0 y → Reports S s s' (Ok m)
  written {s'} (fits a b) k = record { is = λ ws x. go ws x (has_room (fits a b) ws x) }
    where
      go : (ws : List ℕ) → S ws → RoomAt s 0 ws → Reported s s' ws (Ok n)
      go ws x r =
          let i = l.is ws x in
          let h : 0 + length ws ≤ length s = r.room in
          let e : 0 + length ws ≡ length ws = omega arith in
          reported {n = n} (omega arith) (omega (arith, r.small)) (omega (arith, r.small))
          ((k.past ws x r).is ∙ sets-eq ws s 0 h ∙ ap (λ (i : ℕ). ws ++ drop i s) e)
