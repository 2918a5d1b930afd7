-- Writing a type: what waits, the loop over the steps, and its end.
use mathlib.Core.Path.{◌≡◌, refl, sym, ◌∙◌, ap}
use mathlib.Core.List.{List, [], ◌++◌, append_assoc, append-nil}
use Prim.Native.Nat.{ℕ, ◌+◌, ◌-◌, ◌≤◌, ◌<◌}
use native.Mathlib.Nat.{le_refl}
use native.Mathlib.Omega.{arith}
use lib.ListN.{length, get_or, set, length-append}
use lib.Seq.{sets, length-sets}
use Rattle.definition.specs.Syntax.{Ty, ty_words}
use Rattle.layout.specs.Places.{size}
use Rattle.layout.specs.Words.{Keep}
use Rattle.layout.specs.Denotes.{Den}
use Rattle.layout.proofs.Words.{keep_trans, keep_less, keep_set}
use Rattle.layout.proofs.Places.{size_is, size_some}
use Rattle.types.specs.Reading.{Held, LengthOf}
use Rattle.writing.specs.Spelling.{Long, Ground, Spelled, RoomAt, Writes}
use Rattle.writing.specs.Types.{OfType, Waiting, Waits, no_more, more, Stepped, Steps}
use Rattle.writing.specs.declared.Pen.{Pen}
use Rattle.writing.proofs.Placing.{sets_append, keep_sets, keep_both, keep_same}

-- ## What waits

waits_same : {q w : List ℕ} {t : ℕ} {s s' : List ℕ} {low end : ℕ} {ws : List ℕ} → ((i : ℕ) → low ≤ i → get_or s i 0 ≡ get_or s' i 0)
    → Waits q w t s low end ws → Waits q w t s' low end ws
waits_same f (no_more e) = no_more e
waits_same {low = low} f (more d k e) = more (rw (f low (le_refl low)) at d) (waits_same (λ i l. f i (omega arith)) k) e

waits_append : {q w : List ℕ} {t : ℕ} {s : List ℕ} {low m end : ℕ} {us vs : List ℕ} → Waits q w t s low m us → Waits q w t s m end vs
    → Waits q w t s low end (us ++ vs)
waits_append (no_more e) k = rw e k
waits_append {vs = vs} (more {T = T} {vs = us} d u e) k =
    more d (waits_append u k) (ap (λ (x : List ℕ). x ++ vs) e ∙ append_assoc (ty_words T) us vs)

-- each that waits has a word at least
waits_room : {q w : List ℕ} {t : ℕ} {s : List ℕ} {low end : ℕ} {ws : List ℕ} → Waits q w t s low end ws → (low ≤ end) × (end ≤ low + length ws)
waits_room (no_more e) = (omega arith, omega arith)
waits_room (more {T = T} {vs = vs} d k e) =
    let r = waits_room k in
    (omega (arith, r.0), omega (arith, r.1, ap length e, length-append (ty_words T) vs, size_is T, size_some T))

-- ## The loop

-- the words ws are to stand in s₀ from at to end: some are put already, up to p, and references wait for the others from low on
pub record Going (q w : List ℕ) (t : ℕ) (s₀ s : List ℕ) (at end : ℕ) (ws : List ℕ) (p low : ℕ) : Type 0 where
  pub done : List ℕ
  pub rest : List ℕ
  pub is : ws ≡ done ++ rest
  pub whole : end ≡ at + length ws
  pub within : end ≤ length s₀
  pub p_is : p ≡ at + length done
  pub keep : Keep p end (sets s₀ at done) s
  pub waits : Waits q w t s low end rest

going_first : {q w : List ℕ} {t : ℕ} {s₀ s : List ℕ} {at end low : ℕ} {T : Ty} {ws : List ℕ} → Keep at end s₀ s → end ≤ length s₀
    → end ≡ at + length ws → low + 1 ≡ end → ws ≡ ty_words T → Den q w t (get_or s low 0) T → Going q w t s₀ s at end ws at low
going_first {T = T} k l e n f d = record {
  done = [];
  rest = ty_words T ++ [];
  is = f ∙ sym (append-nil (ty_words T));
  whole = e;
  within = l;
  p_is = omega arith;
  keep = k;
  waits = more d (no_more n) refl;
}

none_left : {q w : List ℕ} {t : ℕ} {s : List ℕ} {low end : ℕ} {ws : List ℕ} → end ≤ low → Waits q w t s low end ws → ws ≡ []
none_left l (no_more e) = refl
none_left l (more d k e) = absurd (omega (arith, (waits_room k).0))

going_end : {q w : List ℕ} {t : ℕ} {s₀ s : List ℕ} {at end : ℕ} {ws : List ℕ} {p low : ℕ} → Going q w t s₀ s at end ws p low → end ≤ low
    → s ≡ sets s₀ at ws
going_end {s₀ = s₀} {at = at} {end = end} {ws = ws} {p = p} g l =
    let e : ws ≡ g.done = g.is ∙ ap (λ (x : List ℕ). g.done ++ x) (none_left l g.waits) ∙ append-nil g.done in
    let p_end : p ≡ end = omega (arith, g.p_is, g.whole, ap length e) in
    sym (rw e (keep_same (rw p_end at g.keep)))

-- the reference that is taken next
pub record TakenNext (q w : List ℕ) (t : ℕ) (s : List ℕ) (end : ℕ) (rest : List ℕ) (p low : ℕ) : Type 0 where
  pub T : Ty
  pub vs : List ℕ
  pub den : Den q w t (get_or s low 0) T
  pub waits : Waits q w t s (low + 1) end vs
  pub is : rest ≡ ty_words T ++ vs
  pub room : p + size T ≤ low + 1

going_next : {q w : List ℕ} {t : ℕ} {s₀ s : List ℕ} {at end : ℕ} {ws : List ℕ} {p low : ℕ} (g : Going q w t s₀ s at end ws p low) → low < end
    → TakenNext q w t s end g.rest p low
going_next {q} {w} {t} {s₀} {s} {at} {end} {ws} {p} {low} g l = go g.rest g.is g.waits
  where
    go : (rest : List ℕ) → ws ≡ g.done ++ rest → Waits q w t s low end rest → TakenNext q w t s end rest p low
    go rest i (no_more e) = absurd (omega arith)
    go rest i (more {T = T} {vs = vs} d k e) = record {
      T = T;
      vs = vs;
      den = d;
      waits = k;
      is = e;
      room = omega (arith, g.p_is, g.whole, ap length i, length-append g.done rest, ap length e, length-append (ty_words T) vs, size_is T, (waits_room k).1);
    }

regroup : (a b c d : List ℕ) → a ++ ((b ++ c) ++ d) ≡ (a ++ b) ++ (c ++ d)
regroup a b c d = simp append_assoc

going_step : {q w : List ℕ} {t : ℕ} {s₀ s s' : List ℕ} {at end : ℕ} {ws : List ℕ} {p low : ℕ} {z : Pen} (g : Going q w t s₀ s at end ws p low)
    (n : TakenNext q w t s end g.rest p low) → Stepped q w t s s' p low n.T z → Going q w t s₀ s' at end ws z.at z.low
going_step {s₀ = s₀} {s = s} {s' = s'} {at = at} {end = end} {ws = ws} {p = p} {low = low} {z = z} g n k =
    let low_end : low + 1 ≤ end = (waits_room n.waits).0 in
    let next : p + length k.head ≤ low + 1 =
    omega (arith, n.room, size_is n.T, ap length k.is, length-append k.head k.tail) in
    let put_both : Keep z.at end (sets (sets s₀ at g.done) p k.head) (sets s p k.head) =
    keep_both k.head p z.at k.at_is (omega (arith, k.at_is, length-sets s₀ at g.done, g.within)) (omega (arith, k.at_is)) g.keep in
    let put_all : Keep z.at end (sets (sets s₀ at g.done) p k.head) s' = keep_trans put_both (keep_less (le_refl _) low_end k.keep) in
    let stays : Keep p (low + 1) s s' =
    keep_trans (keep_less (le_refl p) next (keep_sets k.head s p (p + length k.head) refl))
    (keep_less (omega (arith, k.at_is)) (le_refl _) k.keep) in
    record {
      done = g.done ++ k.head;
      rest = k.tail ++ n.vs;
      is = g.is ∙ ap (λ (x : List ℕ). g.done ++ x) (n.is ∙ ap (λ (x : List ℕ). x ++ n.vs) k.is) ∙ regroup g.done k.head k.tail n.vs;
      whole = g.whole;
      within = g.within;
      p_is = omega (arith, k.at_is, g.p_is, length-append g.done k.head);
      keep = rw (sets_append g.done k.head s₀ at g.p_is) put_all;
      waits = waits_append k.waits (waits_same (λ i l. stays.above i l) n.waits);
    }

-- ## From the length to the end

pub type_held : {q w : List ℕ} {t r : ℕ} → Spelled q w t (OfType q w t r) → Held q w t r
type_held x = record { base = x.ground.base; fits = x.ground.fits; cap = x.ground.cap; type = x.says.it; den = x.says.stands }

pub long_type : {q w : List ℕ} {t r n : ℕ} → LengthOf q w t r n → Long 4294967295 (OfType q w t r) n
long_type l = record { is = λ ws x. omega (arith, l.is x.it x.stands, size_is x.it, ap length x.is) }

-- the loop's invariant, for every slice that differs from the one at its start in the type's own place alone
abbrev pub Writing : List ℕ → List ℕ → ℕ → ℕ → ℕ → ℕ → List ℕ → List ℕ → ℕ → ℕ → Type 0
Writing q w t r p end s₀ s' pen low =
    (s ws : List ℕ) → Keep p end s s₀ → OfType q w t r ws → RoomAt s p ws → Going q w t s s' p end ws pen low

pub writing_again : {q w : List ℕ} {t r p end pen low : ℕ} {s₀ s s' : List ℕ} {z : Pen} → Writing q w t r p end s₀ s pen low → low < end
    → Steps q w t s s' pen low z → Writing q w t r p end s₀ s' z.at z.low
writing_again i l k u ws kp x o =
    let g = i u ws kp x o in
    let n = going_next g l in
    going_step g n (k.is n.T n.den n.room)

pub going_less : {q w : List ℕ} {t p end pen low : ℕ} {s₀ s s' ws : List ℕ} {z : Pen} → Going q w t s₀ s p end ws pen low → low < end
    → Steps q w t s s' pen low z → end - z.at < end - pen
going_less g l k =
    let n = going_next g l in
    let y = k.is n.T n.den n.room in
    omega (arith, n.room, size_some n.T, y.some, y.at_is)

pub going_waiting : {q w : List ℕ} {t p end pen low : ℕ} {s₀ s ws : List ℕ} → Ground q w t → Going q w t s₀ s p end ws pen low → low < end
    → Waiting q w t s pen low
going_waiting {p = p} {s₀ = s₀} b g l =
    let n = going_next g l in
    record { ground = b; within = omega (arith, g.within, g.keep.long, length-sets s₀ p g.done); type = n.T; den = n.den; room = n.room }

-- where its words have room, a type's length is exact, and its reference can wait at its far end
module _ {q w : List ℕ} {t r n : ℕ} (l : LengthOf q w t r n) where
  pub far_end : {s : List ℕ} {p : ℕ} {ws : List ℕ} → OfType q w t r ws → RoomAt s p ws
      → (n ≡ length ws) × (1 ≤ p + n) × (p ≤ p + n - 1) × (p + n - 1 < length s)
  far_end x o =
      let e = (long_type l).is _ x in
      let k = size_some x.it in
      let m = size_is x.it in
      let f = ap length x.is in
      (omega (arith, o.small), omega (arith, o.small), omega (arith, o.small), omega (arith, o.small, o.room))

  pub writing_first : {s₀ : List ℕ} {p : ℕ} → get_or s₀ (p + n - 1) 0 ≡ r → Writing q w t r p (p + n) s₀ s₀ p (p + n - 1)
  writing_first {s₀} {p} e s ws k x o =
      let f = far_end x o in
      let d : Den q w t (get_or s₀ (p + n - 1) 0) x.it = rw e x.stands in
      going_first k (omega (arith, f.0, o.room)) (omega (arith, f.0)) (omega (arith, f.1)) x.is d

  module _ (s : List ℕ) {s₀ s' : List ℕ} {p pen low : ℕ} (e : s₀ ≡ set s (p + n - 1) r) (i : Writing q w t r p (p + n) s₀ s' pen low) where
    pub writing_now : {ws : List ℕ} → OfType q w t r ws → RoomAt s p ws → Going q w t s s' p (p + n) ws pen low
    writing_now x o =
        let f = far_end x o in
        i s _ (rw e (keep_set p (p + n) s (p + n - 1) r f.2 (omega (arith, f.1)))) x o

    pub writing_end : p + n ≤ low → Writes (OfType q w t r) s s' p (p + n)
    writing_end h = record {
      past = λ ws x o. record { is = going_end (writing_now x o) h; next = ap (λ (m : ℕ). p + m) (far_end x o).0 };
    }
