-- The arms of a call that makes a type, said once for substitution and application: what each step asks, and what the arm has done.
use mathlib.Core.Path.{◌≡◌, refl, sym, ap, subst}
use mathlib.Core.List.{List}
use Prim.Native.Nat.{ℕ, ◌+◌, ◌-◌, ◌*◌, ◌≤◌, ◌<◌}
use native.Mathlib.Omega.{arith}
use Rattle.std.specs.Prelude.{Result, Ok, Err}
use Rattle.std.specs.Result.{IsErrAnd}
use Rattle.std.proofs.lemmas.Result.{err_from_is_err_and}
use Rattle.definition.specs.Syntax.{Ty, arrow, forall}
use Rattle.definition.specs.Run.{Out, done, M, give}
use Rattle.layout.specs.Names.{ty}
use Rattle.layout.specs.States.{raised, Charges}
use Rattle.layout.specs.Words.{Keep}
use Rattle.layout.specs.Denotes.{Den}
use Rattle.layout.specs.Room.{Room}
use Rattle.layout.specs.declared.TyVar.{TyVar}
use Rattle.layout.specs.declared.State.{State}
use Rattle.layout.specs.declared.Made.{Made}
use Rattle.layout.specs.declared.Spent.{Spent}
use Rattle.layout.proofs.Words.{keep_refl}
use Rattle.layout.proofs.States.{is_paid, not_paid}
use Rattle.types.specs.Reading.{Held, HeldAs, HeldNamed, form_number, FormOf, Named, LeftOf, RightOf, BodyOf}
use Rattle.types.specs.declared.Form.{Form}
use Rattle.types.specs.Making.{ArrowRoom, ForallRoom}
use Rattle.types.proofs.Held.{room_held, held_named, held_arrow, held_forall}
use Rattle.types.proofs.Cases.{by_arrow, by_forall}
use Rattle.substitution.specs.Passing.{pay, Passed, Makes, made, spent, ArrowMade, ForallMade}
use Rattle.substitution.proofs.Passing.{here, then, keep_on, den_on, room_on, kept, grown, room_paid, Reached, reached, ended}
use Rattle.substitution.proofs.Equations as equations
use Rattle.substitution.proofs.Equations.{PaysFirst, once_paid, on_arrow, arrow_stop, arrow_stop_late, arrow_done, on_forall, forall_stop, forall_done}

-- ## A call that makes a type: from the type r, and from an x that work holds besides (G), a type to put in or a context to apply

-- there is room for all that the budget allows, and there are an x and a type
pub record Askable {X : Type 0} (G : X → List ℕ → ℕ → Type 0) (q w : List ℕ) (s : State) (r : ℕ) : Type 0 where
  pub spare : ℕ
  pub room : Room q w s spare
  pub x : X
  pub given : G x w s.top
  pub type : Ty
  pub den : Den q w s.top r type

-- for every x and type, the call does what m does
pub record Does {X : Type 0} (G : X → List ℕ → ℕ → Type 0) (m : X → Ty → M Ty) (q w w' : List ℕ) (s : State) (r : ℕ) (z : Result Made Spent) : Type 0 where
  pub makes : (x : X) → G x w s.top → (T : Ty) → Den q w s.top r T → Makes q w w' s z (m x T s.left s.fresh)

-- ## What the arms rest on

-- what work holds besides stays where its words stay; each call of m pays first, and takes an Arrow apart
pub record Descent {X : Type 0} (G : X → List ℕ → ℕ → Type 0) (m : X → Ty → M Ty) : Type 0 where
  pub stays : {w w' : List ℕ} {t t' h : ℕ} (x : X) → Keep t h w w' → t ≤ t' → G x w t → G x w' t'
  pub rest : X → Ty → M Ty
  pub paid : (x : X) (T : Ty) → PaysFirst (m x T) (rest x T)
  pub arrows : (x : X) (A B : Ty) → PaysFirst (m x (arrow A B)) (on_arrow (m x) A B)

module _ {X : Type 0} {G : X → List ℕ → ℕ → Type 0} {q w : List ℕ} {s : State} {r : ℕ} where
  pub held : Askable G q w s r → Held q w s.top r
  held h = room_held h.room h.den

  pub spent_at_once : {m : X → Ty → M Ty} {x : Spent} → Descent G m → Charges s 1 (Err x) → (y : Spent) → Does G m q w w s r (Err y)
  spent_at_once way c y = record {
    makes = λ x g T d. let l = not_paid c refl in rw (equations.unpaid s.left s.fresh (way.paid x T) (omega arith)) (spent (keep_refl _ _ w));
  }

  -- what the exit of a `?` gives back
  pub exits : {m : X → Ty → M Ty} {w' : List ℕ} (Q : Spent → Type 0) (z : Result Made Spent) → IsErrAnd z Q
      → ((y : Spent) → Does G m q w w' s r (Err y)) → Does G m q w w' s r z
  exits Q z e h = let p = err_from_is_err_and z e in rw p.1 (h p.0)

-- ## A call that has begun

-- one unit was paid, which leaves p, and the type's form is f
pub record Began (q w : List ℕ) (s : State) (r : ℕ) (p : State) (f : Form) : Type 0 where
  pub some : 1 ≤ s.left
  pub is : p ≡ pay s
  pub form : FormOf q w s.top r f

-- it asks, and has begun; n is the cycle's measure
pub record PaidCall (X : Type 0) (n : ℕ) : Type 1 where
  pub G : X → List ℕ → ℕ → Type 0
  pub m : X → Ty → M Ty
  pub way : Descent G m
  pub q : List ℕ
  pub w : List ℕ
  pub s : State
  pub r : ℕ
  pub p : State
  pub f : Form
  pub asks : Askable G q w s r
  pub falls : s.left ≡ n
  pub began : Began q w s r p f

-- so it is where the form was read
abbrev pub begin : {X : Type 0} {G : X → List ℕ → ℕ → Type 0} {m : X → Ty → M Ty} {q w : List ℕ} {s p : State} {r n : ℕ} (f : Form)
    → Descent G m → Askable G q w s r → s.left ≡ n → Charges s 1 (Ok p) → FormOf q w s.top r f → PaidCall X n
begin f way h l c t = record {
  G = _;
  m = _;
  way = way;
  q = _;
  w = _;
  s = _;
  r = _;
  p = _;
  f = f;
  asks = h;
  falls = l;
  began = record { some = (is_paid c refl).enough; is = (is_paid c refl).is; form = t };
}

-- a call on l, from w and s, has made the type z, at w'
pub record Gone {X : Type 0} (G : X → List ℕ → ℕ → Type 0) (m : X → Ty → M Ty) (q w : List ℕ) (s : State) (l : ℕ) : Type 0 where
  pub w' : List ℕ
  pub z : Made
  pub does : Does G m q w w' s l (Ok z)

module _ {X : Type 0} {n : ℕ} (i : PaidCall X n) where
  -- l denotes T; the call ends so; a call on the part l ends so, or has made a type
  abbrev pub Denoted : ℕ → Ty → Type 0
  Denoted l T = Den i.q i.w i.s.top l T

  abbrev pub Ends : List ℕ → Result Made Spent → Type 0
  Ends w' z = Does i.G i.m i.q i.w w' i.s i.r z

  abbrev pub On : ℕ → List ℕ → Result Made Spent → Type 0
  On l w' z = Does i.G i.m i.q i.w w' i.p l z

  abbrev pub PartMade : ℕ → Type 0
  PartMade l = Gone i.G i.m i.q i.w i.p l

  -- what the call asks, and the same for any x and type
  abbrev pub ItsAsk : Type 0
  ItsAsk = Askable i.G i.q i.w i.s i.r

  abbrev for : (x : X) → i.G x i.w i.s.top → (T : Ty) → Denoted i.r T → ItsAsk
  for x g T d = record { spare = _; room = i.asks.room; x = x; given = g; type = T; den = d }

  -- the budget left falls
  pub fewer : i.p.left < n
  fewer = rw i.began.is (omega (arith, i.began.some, i.falls))

  -- what its form tells of its type
  pub as_arrow : i.f ≡ Form.Arrow → HeldAs i.q i.w i.s.top i.r 5
  as_arrow = held_arrow (held i.asks) i.began.form

  pub as_forall : i.f ≡ Form.Forall → HeldAs i.q i.w i.s.top i.r 6
  as_forall = held_forall (held i.asks) i.began.form

  pub named : 3 ≤ form_number i.f → (form_number i.f ≡ 5 → ⊥) → HeldNamed i.q i.w i.s.top i.r
  named = held_named (held i.asks) i.began.form

  -- the room there is then, for a new record among others
  room_then : {w' : List ℕ} {s' : State} {j : ℕ} → Passed i.w w' (pay i.s) s' j → Room i.q w' s' (i.asks.spare + 32 + 28 * j)
  room_then p = room_on p (room_paid i.began.some i.asks.room)

  -- the same is asked for a part: once a unit is paid, and later on
  asks_on : {w' : List ℕ} {s' : State} {j l : ℕ} {A : Ty} → Passed i.w w' (pay i.s) s' j → Denoted l A → Askable i.G i.q w' s' l
  asks_on p d = record {
    spare = _;
    room = room_then p;
    x = i.asks.x;
    given = i.way.stays i.asks.x p.keep p.up i.asks.given;
    type = _;
    den = den_on p d;
  }

  pub part_asks : {l : ℕ} {A : Ty} → Denoted l A → Askable i.G i.q i.w i.p l
  part_asks d = rw i.began.is (asks_on (here i.w (pay i.s)) d)

  part_makes : {l : ℕ} {w₁ : List ℕ} {z₁ : Result Made Spent} {A : Ty} → On l w₁ z₁ → (a : ItsAsk) → Denoted l A
      → Makes i.q i.w w₁ (pay i.s) z₁ (i.m a.x A (i.s.left - 1) i.s.fresh)
  part_makes call a d = (rw i.began.is at call).makes a.x a.given _ d

  part_reached : {l : ℕ} {A : Ty} (g : PartMade l) (a : ItsAsk) → Denoted l A
      → Reached i.q i.w g.w' (pay i.s) g.z.st g.z.ty (i.m a.x A (i.s.left - 1) i.s.fresh)
  part_reached g a d = reached (part_makes g.does a d) refl

-- ## Calls without parts, and one that goes on

-- at once the type that u denotes
pub record AtOnce (q w : List ℕ) (t u : ℕ) (m : M Ty) : Type 0 where
  pub type : Ty
  pub is : PaysFirst m (give type)
  pub den : Den q w t u type

-- it goes on to the type that u denotes
pub record GoesOn (q w : List ℕ) (t u : ℕ) (m : Ty → M Ty) (T : Ty) : Type 0 where
  pub type : Ty
  pub is : PaysFirst (m T) (m type)
  pub den : Den q w t u type

pub given_at_once : {X : Type 0} {n u : ℕ} (i : PaidCall X n)
    → ((x : X) → i.G x i.w i.s.top → (T : Ty) → Denoted i i.r T → AtOnce i.q i.w i.s.top u (i.m x T))
    → Ends i i.w (Ok (record { st = i.p; ty = u }))
unfolding give
given_at_once i f = record {
  makes = λ x g T d.
      let v = f x g T d in
      rw (i.began.is, once_paid i.s.left i.s.fresh v.is i.began.some)
      (made (kept i.began.some (here i.w (pay i.s))) v.den);
}

-- the call goes on with what u denotes
pub record Led (X : Type 0) (n : ℕ) : Type 1 where
  pub on : PaidCall X n
  pub u : ℕ
  pub leads : (x : X) → on.G x on.w on.s.top → (T : Ty) → Denoted on on.r T → GoesOn on.q on.w on.s.top u (on.m x) T

-- what is made once a unit is paid is made
paid_makes : {q w w' : List ℕ} {s : State} {z : Result Made Spent} {R : Out Ty} → 1 ≤ s.left → Makes q w w' (pay s) z R → Makes q w w' s z R
paid_makes some (made p d) = made (kept some p) d
paid_makes some (spent k) = spent k

module _ {X : Type 0} {n : ℕ} (f : Led X n) where
  pub follows : Askable f.on.G f.on.q f.on.w f.on.p f.u
  follows = let a = f.on.asks in part_asks f.on (f.leads a.x a.given a.type a.den).den

  pub followed : {w₁ : List ℕ} {z₁ : Result Made Spent} → On f.on f.u w₁ z₁ → Ends f.on w₁ z₁
  followed call = record {
    makes = λ x c T d.
        let i = f.on in
        let v = f.leads x c T d in
        rw (once_paid i.s.left i.s.fresh v.is i.began.some)
        (paid_makes i.began.some (part_makes i call (for i x c T d) v.den));
  }

-- a record that was built at the top is made
record_made : {q w w' : List ℕ} {s : State} (s' : State) {m : Made} {T : Ty} → m.st ≡ raised s' 4 → Passed w w' s (raised s' 4) 1
    → Den q w' (s'.top + 4) m.ty T → Makes q w w' s (Ok m) (done T s'.left s.fresh)
record_made {q} {w} {w'} {s} s' {m} {T} e p d =
    let same = ap (λ (s : State). s.left) e in
    let h : Makes q w w' s (Ok m) (done T m.st.left s.fresh) = made (rw e p) (rw e d) in
    subst (λ (l : ℕ). Makes q w w' s (Ok m) (done T l s.fresh)) same h

-- ## An Arrow

-- T is an Arrow of what l and u denote
pub record ArrowOf (q w : List ℕ) (t l u : ℕ) (T : Ty) : Type 0 where
  pub A : Ty
  pub B : Ty
  pub is : T ≡ arrow A B
  pub left : Den q w t l A
  pub right : Den q w t u B

pub halves : {q w : List ℕ} {t r l u : ℕ} {f : Form} → FormOf q w t r f → f ≡ Form.Arrow → LeftOf q w t r l → RightOf q w t r u
    → (T : Ty) → Den q w t r T → ArrowOf q w t l u T
halves {q} {w} {t} {l = l} {u = u} c e f g =
    by_arrow (ArrowOf q w t l u) c (ap form_number e) (λ A B d. record { A = A; B = B; is = refl; left = (f.is A B d).den; right = (g.is A B d).den })

-- the call is on an Arrow, whose halves were read
pub record Arrow (X : Type 0) (n : ℕ) : Type 1 where
  pub on : PaidCall X n
  pub l : ℕ
  pub u : ℕ
  pub parts : (T : Ty) → Denoted on on.r T → ArrowOf on.q on.w on.s.top l u T

-- its left half is made
pub record LeftMade (X : Type 0) (n : ℕ) : Type 1 where
  pub on : Arrow X n
  pub made : PartMade on.on on.l

-- and its right half
pub record BothMade (X : Type 0) (n : ℕ) : Type 1 where
  pub on : LeftMade X n
  pub made : Gone on.on.on.G on.on.on.m on.on.on.q on.made.w' on.made.z.st on.on.u

module _ {X : Type 0} {n : ℕ} (h : Arrow X n) where
  -- the halves of the type that is asked for
  abbrev half : (a : ItsAsk h.on) → ArrowOf h.on.q h.on.w h.on.s.top h.l h.u a.type
  half a = h.parts a.type a.den

  pub left_asks : Askable h.on.G h.on.q h.on.w h.on.p h.l
  left_asks = part_asks h.on (half h.on.asks).left

  pub left_spent : {w₁ : List ℕ} {x : Spent} → On h.on h.l w₁ (Err x) → (y : Spent) → Ends h.on w₁ (Err y)
  left_spent call y = record {
    makes = λ x c T d.
        let i = h.on in
        let v = h.parts T d in
        let e = ended (part_makes i call (for i x c T d) v.left) refl in
        rw (v.is, arrow_stop (i.m x) _ _ i.s.left i.s.fresh (i.way.arrows x v.A v.B) i.began.some e.is) (spent e.keep);
  }

module _ {X : Type 0} {n : ℕ} (h : LeftMade X n) where
  -- the call
  abbrev i : PaidCall X n
  i = h.on.on

  left_reached : (a : ItsAsk i) → Reached i.q i.w h.made.w' (pay i.s) h.made.z.st h.made.z.ty
      (i.m a.x (half h.on a).A (i.s.left - 1) i.s.fresh)
  left_reached a = part_reached i h.made a (half h.on a).left

  pub left_fewer : h.made.z.st.left < n
  left_fewer = omega (arith, (left_reached i.asks).passed.paid, i.began.some, i.falls)

  pub right_asks : Askable i.G i.q h.made.w' h.made.z.st h.on.u
  right_asks = asks_on i (left_reached i.asks).passed (half h.on i.asks).right

  module _ {w₂ : List ℕ} {z₂ : Result Made Spent} (call : Does i.G i.m i.q h.made.w' w₂ h.made.z.st h.on.u z₂) where
    right_makes : (a : ItsAsk i) → Makes i.q h.made.w' w₂ h.made.z.st z₂
        (i.m a.x (half h.on a).B h.made.z.st.left h.made.z.st.fresh)
    right_makes a = let y = (left_reached a).passed in
        call.makes a.x (i.way.stays a.x y.keep y.up a.given) (half h.on a).B (den_on y (half h.on a).right)

    pub right_spent : {x : Spent} → z₂ ≡ Err x → (y : Spent) → Ends i w₂ (Err y)
    right_spent e y = record {
      makes = λ x c T d.
          let v = h.on.parts T d in
          let y = left_reached (for i x c T d) in
          let o = ended (right_makes (for i x c T d)) e in
          let eq = i.way.arrows x v.A v.B in
          rw (v.is, arrow_stop_late (i.m x) _ _ i.s.left i.s.fresh eq i.began.some y.is y.passed.fresh o.is)
          (spent (keep_on y.passed o.keep));
    }

module _ {X : Type 0} {n : ℕ} (b : BothMade X n) where
  -- the call
  abbrev j : PaidCall X n
  j = b.on.on.on

  right_reached : (a : ItsAsk j) → Reached j.q b.on.made.w' b.made.w' b.on.made.z.st b.made.z.st b.made.z.ty
      (j.m a.x (half b.on.on a).B b.on.made.z.st.left b.on.made.z.st.fresh)
  right_reached a = reached (right_makes b.on b.made.does a) refl

  both_passed : (a : ItsAsk j) → Passed j.w b.made.w' (pay j.s) b.made.z.st 2
  both_passed a = then (left_reached b.on a).passed (right_reached a).passed

  pub arrow_asks : ArrowRoom j.q b.made.w' b.made.z.st.top b.on.made.z.ty b.made.z.ty
  arrow_asks =
      let o = right_reached j.asks in
      let room = room_then j (both_passed j.asks) in
      record {
        room = omega (arith, room.fits, room.low);
        left = room_held room (den_on o.passed (left_reached b.on j.asks).den);
        right = room_held room o.den;
      }

  pub arrow_does : {w₃ : List ℕ} {m : Made} → ArrowMade j.q b.made.w' w₃ b.made.z.st b.on.made.z.ty b.made.z.ty m → Ends j w₃ (Ok m)
  arrow_does f = record {
    makes = λ x c T d.
        let a = for j x c T d in
        let v = half b.on.on a in
        let y = left_reached b.on a in
        let o = right_reached a in
        let eq = j.way.arrows x v.A v.B in
        rw (v.is, arrow_done (j.m x) _ _ j.s.left j.s.fresh eq j.began.some y.is y.passed.fresh o.is)
        (record_made _ f.st (grown j.began.some (both_passed a) f.put.keep (omega (arith, (room_then j (both_passed a)).fits)))
        (f.put.den y.type o.type (den_on o.passed y.den) o.den));
  }

-- ## A Forall

-- T is a Forall of the name a over what u denotes
pub record ForallOf (q w : List ℕ) (t : ℕ) (a : TyVar) (u : ℕ) (T : Ty) : Type 0 where
  pub A : Ty
  pub is : T ≡ forall (ty a) A
  pub den : Den q w t u A

pub body : {q w : List ℕ} {t r u : ℕ} {a : TyVar} {f : Form} → FormOf q w t r f → f ≡ Form.Forall → Named q w t r a → BodyOf q w t r u
    → (T : Ty) → Den q w t r T → ForallOf q w t a u T
body {q} {w} {t} {u = u} {a = a} c e n f =
    by_forall (ForallOf q w t a u) c (ap form_number e) (λ b A d. record { A = A; is = ap (λ e. forall e A) (sym (n.of_forall b A d)); den = (f.is b A d).den })

-- the call is on a Forall, whose name and body were read, and which m takes apart
pub record Forall (X : Type 0) (n : ℕ) : Type 1 where
  pub on : PaidCall X n
  pub a : TyVar
  pub u : ℕ
  pub parts : (T : Ty) → Denoted on on.r T → ForallOf on.q on.w on.s.top a u T
  pub opens : (x : X) (A : Ty) → PaysFirst (on.m x (forall (ty a) A)) (on_forall (on.m x) (ty a) A)

-- its body is made
pub record BodyMade (X : Type 0) (n : ℕ) : Type 1 where
  pub on : Forall X n
  pub made : PartMade on.on on.u

module _ {X : Type 0} {n : ℕ} (f : Forall X n) where
  pub body_asks : Askable f.on.G f.on.q f.on.w f.on.p f.u
  body_asks = part_asks f.on (f.parts f.on.asks.type f.on.asks.den).den

  pub body_spent : {w₁ : List ℕ} {x : Spent} → On f.on f.u w₁ (Err x) → (y : Spent) → Ends f.on w₁ (Err y)
  body_spent call y = record {
    makes = λ x c T d.
        let i = f.on in
        let v = f.parts T d in
        let e = ended (part_makes i call (for i x c T d) v.den) refl in
        rw (v.is, forall_stop (i.m x) _ _ i.s.left i.s.fresh (f.opens x v.A) i.began.some e.is) (spent e.keep);
  }

module _ {X : Type 0} {n : ℕ} (b : BodyMade X n) where
  -- the call
  abbrev k : PaidCall X n
  k = b.on.on

  body_reached : (a : ItsAsk k) → Reached k.q k.w b.made.w' (pay k.s) b.made.z.st b.made.z.ty
      (k.m a.x (b.on.parts a.type a.den).A (k.s.left - 1) k.s.fresh)
  body_reached a = part_reached k b.made a (b.on.parts a.type a.den).den

  pub forall_asks : ForallRoom k.q b.made.w' b.made.z.st.top b.made.z.ty
  forall_asks =
      let y = body_reached k.asks in
      let room = room_then k y.passed in
      record { room = omega (arith, room.fits, room.low); body = room_held room y.den }

  pub forall_does : {w₂ : List ℕ} {m : Made} → ForallMade k.q b.made.w' w₂ b.made.z.st b.on.a b.made.z.ty m → Ends k w₂ (Ok m)
  forall_does f = record {
    makes = λ x c T d.
        let v = b.on.parts T d in
        let y = body_reached (for k x c T d) in
        rw (v.is, forall_done (k.m x) _ _ k.s.left k.s.fresh (b.on.opens x v.A) k.began.some y.is)
        (record_made _ f.st (grown k.began.some y.passed f.put.keep (omega (arith, (room_then k y.passed).fits))) (f.put.den y.type y.den));
  }

-- ## A call as its parts are read, and made

module _ {X : Type 0} {n : ℕ} where
  abbrev pub arrow_read : {l u : ℕ} (i : PaidCall X n) → i.f ≡ Form.Arrow → LeftOf i.q i.w i.s.top i.r l → RightOf i.q i.w i.s.top i.r u → Arrow X n
  arrow_read i e f g = record { on = i; l = _; u = _; parts = halves i.began.form e f g }

  abbrev pub forall_read : {a : TyVar} {u : ℕ} (i : PaidCall X n) → i.f ≡ Form.Forall → Named i.q i.w i.s.top i.r a → BodyOf i.q i.w i.s.top i.r u
      → ((x : X) (A : Ty) → PaysFirst (i.m x (forall (ty a) A)) (on_forall (i.m x) (ty a) A)) → Forall X n
  forall_read i e f g h = record { on = i; a = _; u = _; parts = body i.began.form e f g; opens = h }

  module _ {w' : List ℕ} {z : Made} where
    abbrev pub left_made : (h : Arrow X n) → On h.on h.l w' (Ok z) → LeftMade X n
    left_made h f = record { on = h; made = record { w' = _; z = _; does = f } }

    abbrev pub both_made : (h : LeftMade X n) → Does h.on.on.G h.on.on.m h.on.on.q h.made.w' w' h.made.z.st h.on.u (Ok z) → BothMade X n
    both_made h f = record { on = h; made = record { w' = _; z = _; does = f } }

    abbrev pub body_made : (h : Forall X n) → On h.on h.u w' (Ok z) → BodyMade X n
    body_made h f = record { on = h; made = record { w' = _; z = _; does = f } }
