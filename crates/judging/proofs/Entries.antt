-- The five entries that rules push and solve; the bare ones hold Int's reference.
use mathlib.Core.Path.{refl}
use mathlib.Core.List.{List}
use Prim.Native.Nat.{ℕ, ◌<◌, ◌^◌}
use Rattle.definition.specs.Syntax.{Ty, var_bnd, tvar_bnd, etvar_bnd, setvar_bnd, mark}
use Rattle.definition.specs.Contexts.{binding_key, key_of, binding_type, held}
use Rattle.definition.specs.Rules.{◌from◌}
use Rattle.layout.specs.Sizes.{INT}
use Rattle.layout.specs.Names.{tm, ty}
use Rattle.layout.specs.Denotes.{Den, AsEntry, SmallEntry, Base}
use Rattle.layout.specs.declared.Entry.{Entry}
use Rattle.layout.specs.declared.Key.{Key}
use Rattle.layout.specs.declared.TmVar.{TmVar}
use Rattle.layout.specs.declared.TyVar.{TyVar}
use Rattle.layout.specs.declared.Key.TheVariants.{Var, TVar, ETVar, SETVar, Mark}
use Rattle.layout.proofs.Denotes.{int_den}
use Rattle.judging.specs.Asking.{here, EntryFrom}
use Rattle.judging.specs.declared.Here.{Here}

module _ {h : Here} {n : Entry} where
  pub entry_small : {k : Key} {r : ℕ} → EntryFrom h k r n → r < 2 ^ 32 → SmallEntry n
  entry_small e l = e.small l

  module _ {q w : List ℕ} {t : ℕ} where
    pub as_var : {x : TmVar} {r : ℕ} {A : Ty} → EntryFrom h (Var x) r n → Den q w t r A → AsEntry q w t n (var_bnd (tm x) A from here h)
    unfolding binding_key binding_type
    as_var e d = e.is refl d

    pub as_solved : {a : TyVar} {r : ℕ} {A : Ty} → EntryFrom h (SETVar a) r n → Den q w t r A → AsEntry q w t n (setvar_bnd (ty a) A from here h)
    unfolding binding_key binding_type
    as_solved e d = e.is refl d

    pub as_tvar : {a : TyVar} → EntryFrom h (TVar a) INT n → Base q w t → AsEntry q w t n (tvar_bnd (ty a) from here h)
    unfolding binding_key binding_type
    as_tvar e b = e.is refl (int_den b)

    pub as_unsolved : {a : TyVar} → EntryFrom h (ETVar a) INT n → Base q w t → AsEntry q w t n (etvar_bnd (ty a) from here h)
    unfolding binding_key binding_type
    as_unsolved e b = e.is refl (int_den b)

    pub as_mark : {a : TyVar} → EntryFrom h (Mark a) INT n → Base q w t → AsEntry q w t n (mark (ty a) from here h)
    unfolding binding_key binding_type
    as_mark e b = e.is refl (int_den b)

-- what `entry` makes
pub from_here : (h : Here) (k : Key) (r : ℕ) → EntryFrom h k r (record { key = k; ty = r })
unfolding key_of held
from_here h k r = record { small = λ l. record { ty = l }; is = λ e d. record { key_is = e; den = d } }
