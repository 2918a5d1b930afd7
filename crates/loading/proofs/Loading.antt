-- Loading entries one after the other.
use mathlib.Core.Path.{◌≡◌, refl, sym, ◌∙◌}
use mathlib.Core.List.{List, [], ◌∷◌}
use mathlib.Core.Logic.{inl, inr, ⊎_elim}
use Prim.Native.Nat.{ℕ, ◌+◌, ◌-◌, ◌*◌}
use native.Mathlib.Omega.{arith}
use native.Mathlib.Nat.{le_refl}
use lib.ListN.{length, get_or}
use Rattle.definition.specs.Syntax.{Ty, int, Binding, Entry, Ctx}
use Rattle.definition.specs.Contexts.{binding_key, kind_of, binding_type, held}
use Rattle.layout.specs.Monotypes.{past}
use Rattle.layout.specs.Words.{Keep, Put4}
use Rattle.layout.specs.Denotes.{Den, written, EntryAt, Base, CtxAt, nil, cons}
use Rattle.layout.proofs.Words.{keep_refl, keep_less, keep_trans}
use Rattle.layout.proofs.Denotes.{den_frame, base_frame, past_ty, int_den, ctx_frame, ctx_join, question_put}
use Rattle.reading.specs.Items.{TyTo}
use Rattle.reading.specs.Contexts.{RestTo, var_rest, tvar_rest, etvar_rest, setvar_rest, mark_rest, EntryTo, EntriesTo, none, some, ListTo}
use Rattle.loading.specs.declared.Rest.{Rest}
use Rattle.loading.specs.Loading.{EntryRest, Loads, LoadedFrom}

-- ## The first of some entries

pub record FirstEntry (q : List ℕ) (p : ℕ) (Γ : Ctx) (n end : ℕ) : Type 0 where
  pub x : Entry
  pub others : Ctx
  pub m : ℕ
  pub is : Γ ≡ x ∷ others
  pub entry : EntryTo q p x m
  pub list : ListTo q m others (n - 1) end

pub begins : {q : List ℕ} {p n end : ℕ} {Γ : Ctx} → (n ≡ 0 → ⊥) → ListTo q p Γ n end → FirstEntry q p Γ n end
begins {q} {p} {n} {end} h l = go l.entries l.count
  where
    go : {p end : ℕ} {Γ : Ctx} → EntriesTo q p Γ end → n ≡ length Γ → FirstEntry q p Γ n end
    go none c = absurd (h c)
    go (some {m = m} {x = x} {Γ = Γ} e es) c =
        record { x = x; others = Γ; m = m; is = refl; entry = e; list = record { entries = es; count = omega arith } }

-- its type reference, and the place past it
pub record Rested (q w : List ℕ) (t : ℕ) (x : Entry) (m : ℕ) (r : Rest) : Type 0 where
  pub den : Den q w t r.ty (held x)
  pub next : r.next ≡ m

pub rested : {q w : List ℕ} {t p m : ℕ} {x : Entry} {r : Rest} → Base q w t → EntryTo q p x m → EntryRest w (get_or q p 0) p r → Rested q w t x m r
unfolding kind_of binding_key binding_type held
rested {q} {w} {t} {p} {m} {x} {r} b e h = let z = go e.binds.rest e.binds.kind.is in record { den = z.0; next = z.1 }
  where
    held_at : {A : Ty} {m : ℕ} → (r.ty ≡ p + 2) × (r.next ≡ past w (p + 2)) → TyTo q (p + 2) A m
        → Den q w t r.ty A × (r.next ≡ m)
    held_at {A} u d = (rw u.0 (written d.at), u.1 ∙ past_ty b d.at ∙ d.to)

    bare_at : (k : ℕ) → get_or q p 0 ≡ k → (k ≡ 32 → ⊥) → (k ≡ 35 → ⊥) → Den q w t r.ty int × (r.next ≡ p + 2)
    bare_at k e u v = let z = h.bare (⊎_elim (λ f. u (sym e ∙ f)) (λ f. v (sym e ∙ f))) in (rw z.0 (int_den b), z.1)

    go : {y : Binding} {m : ℕ} → RestTo q (p + 2) y m → get_or q p 0 ≡ kind_of (binding_key y) → Den q w t r.ty (binding_type y) × (r.next ≡ m)
    go (var_rest d) k = held_at (h.held (inl k)) d
    go tvar_rest k = bare_at 33 k (λ f. omega arith) (λ f. omega arith)
    go etvar_rest k = bare_at 34 k (λ f. omega arith) (λ f. omega arith)
    go (setvar_rest d) k = held_at (h.held (inr k)) d
    go mark_rest k = bare_at 36 k (λ f. omega arith) (λ f. omega arith)

-- ## Some entries

-- none
pub loaded_none : (q w : List ℕ) (p at n : ℕ) → n ≡ 0 → LoadedFrom q w w p at n
loaded_none q w p at n e = record { keep = keep_refl _ _ _; run = λ Γ end l. go l.entries l.count }
  where
    go : {p end : ℕ} {Γ : Ctx} → EntriesTo q p Γ end → n ≡ length Γ → CtxAt q w (at + 4 * n) at Γ
    go none c = nil
    go (some x es) c = absurd (omega arith)

module _ {q w w₁ : List ℕ} {p at n : ℕ} {r : Rest} (pre : Loads q w p at n) (pos : n ≡ 0 → ⊥) (h : EntryRest w (get_or q p 0) p r) where
  pub next_reads : Put4 w w₁ at (get_or q p 0) (get_or q (p + 1) 0) r.ty 0 → Loads q w₁ r.next (at + 4) (n - 1)
  next_reads put =
      let f = begins pos pre.list in
      let z : Rested q w at f.x f.m r = rested pre.base f.entry h in
      record {
        base = base_frame put.keep (omega arith) pre.base;
        room = omega (arith, pre.room, put.keep.long);
        cap = omega (arith, pre.cap, put.keep.long);
        Γ = f.others;
        end = pre.end;
        list = rw z.next f.list;
      }

  pub loaded_some : {w₂ : List ℕ} → Put4 w w₁ at (get_or q p 0) (get_or q (p + 1) 0) r.ty 0 → LoadedFrom q w₁ w₂ r.next (at + 4) (n - 1) → LoadedFrom q w w₂ p at n
  unfolding held
  loaded_some {w₂} put more =
      let e : at + 4 + 4 * (n - 1) ≡ at + 4 * n = omega (arith, pos) in
      let k₂ : Keep (at + 4) (at + 4 * n) w₁ w₂ = keep_less (le_refl _) (omega arith) more.keep in
      record {
        keep = keep_trans (keep_less (le_refl _) (omega arith) put.keep) (keep_less (omega arith) (le_refl _) k₂);
        run = λ Γ end l.
            let f = begins pos l in
            let z : Rested q w at f.x f.m r = rested pre.base f.entry h in
            let d : Den q w₁ (at + 4) r.ty (held f.x) = den_frame put.keep (omega arith) z.den in
            let first : EntryAt q w₁ (at + 4) at f.x =
            rw f.entry.is (question_put p f.x.binding (at + 4) put (le_refl _) f.entry.binds.kind.is f.entry.binds.name.is d) in
            let one : CtxAt q w₁ (at + 4) at (f.x ∷ []) = cons first nil in
            let others : CtxAt q w₂ (at + 4 * n) (at + 4 * length (f.x ∷ [])) f.others =
            rw (← e) (more.run f.others end (rw z.next f.list)) in
            rw f.is (ctx_join (f.x ∷ []) (ctx_frame k₂ (omega arith) one) others);
      }
