-- A context as it stands in the question: entries one after the other.
use Rattle.std.specs.Prelude.{ℕ, ◌+◌, ◌≤◌, ◌≡◌, List, [], ◌∷◌, length, Result, Ok, Err}
use Rattle.definition.specs.Syntax.{TmVar, TyVar, Ty, Binding, var_bnd, tvar_bnd, etvar_bnd, setvar_bnd, mark, Entry, of_question, Ctx}
use Rattle.definition.specs.Contexts.{binding_key, kind_of, name_of}
use Rattle.definition.specs.Question.{Read, got, written, binding, entry, context}
use Rattle.layout.specs.Places.{CodeAt, WordAt}
use Rattle.reading.specs.declared.Fault.{Fault}
use Rattle.reading.specs.declared.Part.{Part}
use Rattle.reading.specs.Faults.{fault_of}
use Rattle.reading.specs.Items.{from, TyTo, Reads}

-- what a binding has after its kind and name, from p up to m: a type or nothing
pub data RestTo (q : List ℕ) (p : ℕ) : Binding → ℕ → Type 0 where
  var_rest : {x : TmVar} {A : Ty} {m : ℕ} → TyTo q p A m → RestTo q p (var_bnd x A) m
  tvar_rest : {a : TyVar} → RestTo q p (tvar_bnd a) p
  etvar_rest : {a : TyVar} → RestTo q p (etvar_bnd a) p
  setvar_rest : {a : TyVar} {A : Ty} {m : ℕ} → TyTo q p A m → RestTo q p (setvar_bnd a A) m
  mark_rest : {a : TyVar} → RestTo q p (mark a) p

-- a binding stands from p up to m
pub record BindingTo (q : List ℕ) (p : ℕ) (b : Binding) (m : ℕ) : Type 0 where
  pub kind : CodeAt q p (kind_of (binding_key b))
  pub name : WordAt q (p + 1) (name_of (binding_key b))
  pub rest : RestTo q (p + 2) b m

-- an entry stands there: its binding, and what else it has by its place
pub record EntryTo (q : List ℕ) (p : ℕ) (x : Entry) (m : ℕ) : Type 0 where
  pub binds : BindingTo q p x.binding m
  pub is : x ≡ of_question p x.binding

-- the entries of Γ stand one after the other from p up to m
pub data EntriesTo (q : List ℕ) : ℕ → Ctx → ℕ → Type 0 where
  none : {p : ℕ} → EntriesTo q p [] p
  some : {p m n : ℕ} {x : Entry} {Γ : Ctx} → EntryTo q p x m → EntriesTo q m Γ n → EntriesTo q p (x ∷ Γ) n

-- and they are n
pub record ListTo (q : List ℕ) (p : ℕ) (Γ : Ctx) (n m : ℕ) : Type 0 where
  pub entries : EntriesTo q p Γ m
  pub count : n ≡ length Γ

-- to the end of the section
pub record ContextTo (q : List ℕ) (p e : ℕ) (Γ : Ctx) (n m : ℕ) : Type 0 where
  pub list : ListTo q p Γ n m
  pub whole : m ≡ e

-- the answer r is what a reader says of words up to e: what it got, by a number (a place, or how many), stands up to the next place
pub data Leaves {A : Type 0} (q : List ℕ) (e : ℕ) (Stands : A → ℕ → ℕ → Type 0) : Result Part Fault → Read A → Type 0 where
  past : {a : A} {x : Part} → Stands a x.value x.past → x.past ≤ e → Leaves q e Stands (Ok x) (got a x.past (from q x.past e))
  refused : {f : Fault} → f.at ≤ e → Leaves q e Stands (Err f) (fault_of f)

abbrev pub BindingRead : List ℕ → ℕ → ℕ → Result ℕ Fault → Type 0
BindingRead q p e r = Reads q e (BindingTo q p) r (binding written p (from q p e))

abbrev pub EntryRead : List ℕ → ℕ → ℕ → Result ℕ Fault → Type 0
EntryRead q p e r = Reads q e (EntryTo q p) r (entry written p (from q p e))

abbrev pub ContextRead : List ℕ → ℕ → ℕ → Result Part Fault → Type 0
ContextRead q p e r = Leaves q e (ContextTo q p e) r (context written p (from q p e))
