-- Reading entries, one after the other.
use Prim.Native.Nat.{ℕ, ◌+◌, ◌*◌, ◌≤◌, ◌<◌}
use mathlib.Core.Path.{◌≡◌, refl, ◌∙◌}
use mathlib.Core.List.{List, [], ◌∷◌}
use native.Mathlib.Decide.{ℕ_discrete}
use native.Mathlib.Omega.{arith}
use Rattle.std.proofs.Common.{ap, zero-add, add-zero, add_assoc}
use lib.ListN.{length}
use lib.Seq.{slice-cons}
use Rattle.definition.specs.Syntax.{pick, Binding, var_bnd, tvar_bnd, etvar_bnd, setvar_bnd, mark, Entry, of_question, Ctx}
use Rattle.definition.specs.Contexts.{binding_key, kind_of, name_of}
use Rattle.definition.specs.Question as definition
use Rattle.definition.specs.Question.{Read, Reader, next, ◌>>=◌, give, written, variable, type_name, type, row, binding, entry, unless_end, context}
use Rattle.std.specs.Prelude.{Result, Ok, Err}
use Rattle.reading.specs.declared.Fault.{Fault}
use Rattle.reading.specs.declared.Part.{Part}
use Rattle.reading.specs.Faults.{bad_shape}
use Rattle.reading.specs.Items as items
use Rattle.reading.specs.Items.{from, Inside, WordTo, Reads, Word, NameRead}
use Rattle.reading.specs.Contexts.{EntriesTo, RestTo, var_rest, tvar_rest, etvar_rest, setvar_rest, mark_rest, BindingTo, EntryTo, none, some, ListTo, ContextTo, Leaves, past, refused, BindingRead, EntryRead, ContextRead}
use Rattle.reading.proofs.Depth.{written_upto, more, context_eq}
use Rattle.reading.proofs.Items.{TypeThen, one_or, from_end, one_of_end, one_of_is, one_of_none, reads_at, reads_map, reads_two, code_at, after_word, variable_read, type_name_read}

-- ## One binding

unfoldable pub binding_rows : List (ℕ × Reader Binding)
binding_rows =
    (32, (do x ← variable written; A ← type written; give (var_bnd x A)))
    ∷ (33, (do a ← type_name written; give (tvar_bnd a)))
    ∷ (34, (do a ← type_name written; give (etvar_bnd a)))
    ∷ (35, (do a ← type_name written; A ← type written; give (setvar_bnd a A)))
    ∷ (36, (do a ← type_name written; give (mark a)))
    ∷ []

binding_end : {q : List ℕ} {p e : ℕ} {f : Fault} → Inside q p e → (e ≤ p) × (f ≡ bad_shape p) → BindingRead q p e (Err f)
unfolding binding
binding_end {q} {p} {e} i h = rw h.1 (reads_at (one_of_end _ q p e h.0) (items.refused i.low))

module _ {q : List ℕ} {p e : ℕ} (i : Inside q p e) {w : ℕ} (h : Word q p e w) where
  binding_row : {k : ℕ} → w ≡ k → binding written p (from q p e) ≡ row k binding_rows (definition.bad_shape p) (p + 1) (from q (p + 1) e)
  unfolding binding binding_rows
  binding_row k = one_of_is binding_rows q p e i.high h k

  binding_none : {f : Fault} → (32 ≤ w → 36 < w) → f ≡ bad_shape p → BindingRead q p e (Err f)
  unfolding binding binding_rows
  binding_none n k =
      rw k
      (reads_at (one_of_none binding_rows q p e i.high h
      ((((((tt, (λ k. omega arith)), (λ k. omega arith)), (λ k. omega arith)), (λ k. omega arith)), (λ k. omega arith))))
      (items.refused i.low))

  -- the binding of the kind that stands at p, of the name after it and of the rest after that
  binding_to : {b : Binding} {j m : ℕ} → w ≡ kind_of (binding_key b) → WordTo q (p + 1) (name_of (binding_key b)) j → RestTo q j b m
      → BindingTo q p b m
  binding_to k s t = record { kind = code_at i h k; name = s.at; rest = rw (after_word p s) at t }

  module _ {r : Result ℕ Fault} (x : NameRead q (p + 1) e r) where
    binding_var : {r' : Result ℕ Fault} → w ≡ 32 → TypeThen q e r r' → BindingRead q p e r'
    unfolding row pick binding_rows ◌>>=◌ binding_key kind_of name_of
    binding_var k y = reads_at (binding_row k) (reads_two var_bnd (λ v A m n s t. binding_to k s (var_rest t)) (variable_read x) y)

    binding_tvar : w ≡ 33 → BindingRead q p e r
    unfolding row pick binding_rows ◌>>=◌ binding_key kind_of name_of
    binding_tvar k = reads_at (binding_row k) (reads_map tvar_bnd (λ a m s. binding_to k s tvar_rest) (type_name_read x))

    binding_etvar : w ≡ 34 → BindingRead q p e r
    unfolding row pick binding_rows ◌>>=◌ binding_key kind_of name_of
    binding_etvar k = reads_at (binding_row k) (reads_map etvar_bnd (λ a m s. binding_to k s etvar_rest) (type_name_read x))

    binding_setvar : {r' : Result ℕ Fault} → w ≡ 35 → TypeThen q e r r' → BindingRead q p e r'
    unfolding row pick binding_rows ◌>>=◌ binding_key kind_of name_of
    binding_setvar k y = reads_at (binding_row k) (reads_two setvar_bnd (λ a A m n s t. binding_to k s (setvar_rest t)) (type_name_read x) y)

    binding_mark : w ≡ 36 → BindingRead q p e r
    unfolding row pick binding_rows ◌>>=◌ binding_key kind_of name_of
    binding_mark k = reads_at (binding_row k) (reads_map mark (λ a m s. binding_to k s mark_rest) (type_name_read x))

    -- a name and a type, or a name alone
    binding_typed : {r' : Result ℕ Fault} → ((w ≡ 32 → ⊥) → w ≡ 35) → TypeThen q e r r' → BindingRead q p e r'
    binding_typed k y = one_or k (λ k. binding_var k y) (λ k. binding_setvar k y)

    binding_named : ((w ≡ 33 → ⊥) → (w ≡ 34 → ⊥) → w ≡ 36) → BindingRead q p e r
    binding_named k = elim (ℕ_discrete w 33) [
      | yes h ↦ binding_tvar h
      | no n ↦ one_or (k n) binding_etvar binding_mark
    ]

-- a binding has two words at least
rest_on : {q : List ℕ} {p m : ℕ} {b : Binding} → RestTo q p b m → p ≤ m
rest_on (var_rest t) = omega arith
rest_on tvar_rest = omega arith
rest_on etvar_rest = omega arith
rest_on (setvar_rest t) = omega arith
rest_on mark_rest = omega arith

-- ## One entry: its binding

entry_read : {q : List ℕ} {p e : ℕ} {r : Result ℕ Fault} → BindingRead q p e r → EntryRead q p e r
unfolding entry ◌>>=◌
entry_read {p = p} x = reads_map (of_question p) (λ b m s. record { binds = s; is = refl }) x

pub entry_end : {q : List ℕ} {p e : ℕ} {f : Fault} → Inside q p e → (e ≤ p) × (f ≡ bad_shape p) → EntryRead q p e (Err f)
entry_end i h = entry_read (binding_end i h)

module _ {q : List ℕ} {p e : ℕ} (i : Inside q p e) {w : ℕ} (h : Word q p e w) where
  pub entry_none : {f : Fault} → (32 ≤ w → 36 < w) → f ≡ bad_shape p → EntryRead q p e (Err f)
  entry_none n k = entry_read (binding_none i h n k)

  module _ {r : Result ℕ Fault} (x : NameRead q (p + 1) e r) where
    pub entry_typed : {r' : Result ℕ Fault} → ((w ≡ 32 → ⊥) → w ≡ 35) → TypeThen q e r r' → EntryRead q p e r'
    entry_typed k y = entry_read (binding_typed i h x k y)

    pub entry_named : ((w ≡ 33 → ⊥) → (w ≡ 34 → ⊥) → w ≡ 36) → EntryRead q p e r
    entry_named k = entry_read (binding_named i h x k)

entry_on : {q : List ℕ} (x : Entry) (p m : ℕ) → EntryTo q p x m → p + 2 ≤ m
entry_on x p m s = rest_on s.binds.rest

-- ## Entries

pub entries_few : {q : List ℕ} {p m : ℕ} {Γ : Ctx} → EntriesTo q p Γ m → p + 2 * length Γ ≤ m
entries_few none = omega arith
entries_few (some {p} {m} {n} {x} {Γ} s l) = omega (arith, entry_on x p m s, entries_few l)

-- the place past an entry
pub further : {q : List ℕ} {p e m : ℕ} → EntryRead q p e (Ok m) → p < m
further {q} {p} {e} {m} x = go x
  where
    go : {o : Read Entry} → Reads q e (EntryTo q p) (Ok m) o → p < m
    go (items.past {a = y} s l) = omega (arith, entry_on y p m s)

-- n entries more than the rest has
abbrev pub added : ℕ → Result Part Fault → Result Part Fault
added n (Ok x) = Ok (record { value = n + x.value; past = x.past })
added n (Err f) = Err f

entries_more : {q : List ℕ} {p m e : ℕ} {r : Result Part Fault} {o : Read Entry} → Reads q e (EntryTo q p) (Ok m) o → ContextRead q m e r
    → Leaves q e (ContextTo q p e) (added 1 r) (next o (λ x. ◌>>=◌ (context written) (λ Γ. give (x ∷ Γ))))
unfolding next ◌>>=◌ give
entries_more {q} {p} {m} {e} (items.past {a = x} s l) y = go y
  where
    go : {r : Result Part Fault} {o : Read Ctx} → Leaves q e (ContextTo q m e) r o → Leaves q e (ContextTo q p e) (added 1 r) (next o (λ Γ. give (x ∷ Γ)))
    go (past {a = Γ} {x = v} t le) =
        let u : ListTo q p (x ∷ Γ) (1 + v.value) v.past = record { entries = some s t.list.entries; count = omega arith } in
        past (record { list = u; whole = t.whole }) le
    go (refused b) = refused b

entry_refused : {A B : Type 0} {q : List ℕ} {e : ℕ} {f : Fault} {S : A → ℕ → Type 0} {S' : B → ℕ → ℕ → Type 0} {o : Read A} (k : A → Reader B)
    → Reads q e S (Err f) o → Leaves q e S' (Err f) (next o k)
unfolding next
entry_refused k (items.refused b) = refused b

pub leaves_at : {A : Type 0} {q : List ℕ} {e : ℕ} {S : A → ℕ → ℕ → Type 0} {r : Result Part Fault} {o o' : Read A} → o' ≡ o → Leaves q e S r o
    → Leaves q e S r o'
leaves_at h x = rw h x

module _ {q : List ℕ} {p e : ℕ} (i : Inside q p e) where
  context_end : e ≤ p → ContextRead q p e (Ok (record { value = 0; past = p }))
  unfolding unless_end
  context_end h =
      let s : ContextTo q p e [] 0 p = record { list = record { entries = none; count = refl }; whole = omega arith } in
      leaves_at (context_eq written_upto p _ ∙ rw (from_end q p e h)) (past s i.low)

  module _ (h : p < e) where
    context_more : context written p (from q p e) ≡ next (entry written p (from q p e)) (λ x. ◌>>=◌ (context written) (λ Γ. give (x ∷ Γ)))
    unfolding unless_end more ◌>>=◌
    context_more = context_eq written_upto p _ ∙ rw (slice-cons p e q 0 h i.high)

    context_some : {m : ℕ} {r : Result Part Fault} → EntryRead q p e (Ok m) → ContextRead q m e r → ContextRead q p e (added 1 r)
    context_some x y = leaves_at context_more (entries_more x y)

    context_refused : {f : Fault} → EntryRead q p e (Err f) → ContextRead q p e (Err f)
    context_refused x = leaves_at context_more (entry_refused _ x)

-- a context that was read has no more entries than its section ends at
pub context_few : {q : List ℕ} {p e : ℕ} {x : Part} → ContextRead q p e (Ok x) → x.value ≤ e
context_few {q} {p} {e} {x} r = go r
  where
    go : {o : Read Ctx} → Leaves q e (ContextTo q p e) (Ok x) o → x.value ≤ e
    go (past t l) = omega (arith, t.list.count, entries_few t.list.entries)

-- ## The loop: n entries were read from first up to p, and the rest is still to be read

pub record Sofar (q : List ℕ) (first e p n : ℕ) : Type 0 where
  pub inside : Inside q p e
  pub few : n ≤ p
  pub rest : (r : Result Part Fault) → ContextRead q p e r → ContextRead q first e (added n r)

module _ {q : List ℕ} {first e : ℕ} where
  pub none_yet : Inside q first e → Sofar q first e first 0
  none_yet i = record { inside = i; few = omega arith; rest = λ r x. rw (none_added r) x }
    where
      none_added : (r : Result Part Fault) → added 0 r ≡ r
      none_added (Ok x) = ap (λ n. Ok (record { value = n; past = x.past })) (zero-add x.value)
      none_added (Err f) = refl

  module _ {p n : ℕ} (s : Sofar q first e p n) where
    pub one_more : {m : ℕ} → p < e → EntryRead q p e (Ok m) → Sofar q first e m (n + 1)
    one_more {m} h x = go x
      where
        both_added : (r : Result Part Fault) → added (n + 1) r ≡ added n (added 1 r)
        both_added (Ok x) = ap (λ n. Ok (record { value = n; past = x.past })) (add_assoc n 1 x.value)
        both_added (Err f) = refl

        go : {o : Read Entry} → Reads q e (EntryTo q p) (Ok m) o → Sofar q first e m (n + 1)
        go (items.past {a = y} t l) = record {
          inside = record { low = l; high = s.inside.high; small = s.inside.small };
          few = omega (arith, s.few, entry_on y p m t);
          rest = λ r y. rw (both_added r) (s.rest _ (context_some s.inside h x y));
        }

    pub no_more : e ≤ p → ContextRead q first e (Ok (record { value = n; past = p }))
    no_more h = rw add-zero at (s.rest _ (context_end s.inside h))

    pub fault_on : {f : Fault} → p < e → EntryRead q p e (Err f) → ContextRead q first e (Err f)
    fault_on h x = s.rest _ (context_refused s.inside h x)
