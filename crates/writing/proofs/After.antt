-- A context's section after another: copied where it is the same, and standing where it was written.
use mathlib.Core.Path.{◌≡◌, refl, sym, ◌∙◌, ap}
use mathlib.Core.Bool.{Bool, true, false, false≢true, ◌&&◌}
use mathlib.Core.List.{List}
use Prim.Native.Nat.{ℕ, ◌+◌, ◌-◌, ◌≤◌}
use native.Mathlib.Omega.{arith}
use borrow.Author.Tests.{eqb-true}
use lib.Dec.{eqb}
use lib.ListN.{get_or}
use Rattle.layout.specs.Words.{Keep, Copied}
use Rattle.layout.specs.declared.Span.{Span}
use Rattle.layout.proofs.Words.{keep_refl}
use Rattle.writing.specs.declared.Known.{Known}
use Rattle.writing.specs.declared.Standing.{Standing}
use Rattle.writing.specs.Spelling.{AfterCount, RoomAt, Writable, Writes}
use Rattle.writing.specs.Contexts.{OfContext}
use Rattle.writing.specs.After.{Measures, Stands, WritesAfter}
use Rattle.writing.proofs.Placing.{keep_sets, sets_read, put_same}
use Rattle.writing.proofs.Spelling.{past_length}

-- ## The same entries of work

abbrev pub span : ℕ → ℕ → Span
span at n = record { at = at; n = n }

pub same_span : {g h : Span} {r : Bool} → r ≡ (eqb g.at h.at && eqb g.n h.n) → r ≡ true → g ≡ h
same_span {g} {h} e f = go (eqb g.at h.at) refl (eqb g.n h.n) refl (sym e ∙ f)
  where
    go : (a : Bool) → eqb g.at h.at ≡ a → (b : Bool) → eqb g.n h.n ≡ b → (a && b) ≡ true → g ≡ h
    go true x true y z = ap (λ (i : ℕ). span i g.n) (eqb-true g.at h.at x) ∙ ap (λ (i : ℕ). span h.at i) (eqb-true g.n h.n y)
    go true x false y z = absurd (false≢true z)
    go false x b y z = absurd (false≢true z)

-- ## What stands

module _ {q w : List ℕ} {t : ℕ} {k : Standing} where
  -- where only words past it changed
  stands_keep : {s s' : List ℕ} {p z y : ℕ} → p ≤ y → Keep p z s s' → Stands q w t s p k → Stands q w t s' y k
  stands_keep {s} {s'} {p} l o x = record {
    below = (x.below.0, omega (arith, x.below.1));
    reads = λ ws y r.
        let a = x.reads ws y (record { room = omega (arith, r.room, o.long); small = r.small }) in
        record { end_is = a.end_is; same = λ i j. sym (o.below (k.at + i) (omega (arith, x.below.1, a.end_is))) ∙ a.same i j };
  }

  -- before a later place
  pub stands_before : {s : List ℕ} {p z : ℕ} → p ≤ z → Stands q w t s p k → Stands q w t s z k
  stands_before {s} {p} {z} l x = stands_keep l (keep_refl p z s) x

  -- after something was written at p
  pub stands_next : {S : List ℕ → Type 0} {s s' : List ℕ} {p z : ℕ} → Writable q w t S s p → Writes S s s' p z → Stands q w t s p k
      → Stands q w t s' z k
  stands_next {s = s} {p = p} {z = z} v u x =
      let ws = v.spelled.words in
      let a = u.past ws v.spelled.says v.room in
      stands_keep (omega (arith, a.next)) (rw (sym a.is) at (keep_sets ws s p z a.next)) x

-- a section stands where it was written
pub stands_written : {q w : List ℕ} {t : ℕ} {g : Span} {s s' : List ℕ} {p z : ℕ} → Writable q w t (AfterCount (OfContext q w t g)) s p
    → Writes (AfterCount (OfContext q w t g)) s s' p z → Stands q w t s' z (record { g = g; at = p; end = z })
stands_written {s = s} {p = p} v u =
    let a = u.past _ v.spelled.says v.room in
    record {
      below = (omega (arith, a.next), omega arith);
      reads = λ ws y r.
          let o : RoomAt s p ws = record { room = omega (arith, r.room, past_length a); small = r.small } in
          let b = u.past ws y o in
          record { end_is = b.next; same = λ i j. ap (λ (x : List ℕ). get_or x (p + i) 0) b.is ∙ sets_read ws s p o.room i j };
    }

-- ## Copied, or written

module _ {q w : List ℕ} {t : ℕ} {g : Span} {s : List ℕ} {p : ℕ} {k : Standing} (v : Writable q w t (AfterCount (OfContext q w t g)) s p) where
  pub after_copied : {s' : List ℕ} → g ≡ k.g → Stands q w t s p k → Copied s s' k.at p (k.end - k.at)
      → WritesAfter q w t g s s' p (record { g = g; at = p; end = p + (k.end - k.at) })
  after_copied {s'} e x c = record { span = refl; place = refl; writes = writes; stands = stands_written v writes }
    where
      writes : Writes (AfterCount (OfContext q w t g)) s s' p (p + (k.end - k.at))
      writes = record {
        past = λ ws y r.
            let a = x.reads ws (rw e at y) (record { room = omega (arith, r.room, x.below); small = omega (arith, r.small, x.below) }) in
            record {
              is = put_same ws (omega (arith, a.end_is)) (omega (arith, a.end_is, r.room)) c.keep (λ i j. c.same i (omega (arith, a.end_is)) ∙ a.same i j);
              next = omega (arith, a.end_is);
            };
      }

pub after_written : {q w : List ℕ} {t : ℕ} {g : Span} {s s' : List ℕ} {p z : ℕ} → Writable q w t (AfterCount (OfContext q w t g)) s p
    → Writes (AfterCount (OfContext q w t g)) s s' p z → WritesAfter q w t g s s' p (record { g = g; at = p; end = z })
after_written v u = record { span = refl; place = refl; writes = u; stands = stands_written v u }

pub measures_own : {q w : List ℕ} {t : ℕ} {g : Span} {k : Known} → Measures q w t g k → Measures q w t k.g k
measures_own x = record { span = refl; long = rw x.span x.long }
