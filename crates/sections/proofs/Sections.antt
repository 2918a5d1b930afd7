-- Where sections stand, and what the sections of a report are.
use mathlib.Core.Path.{◌≡◌, refl, sym, ap, ◌∙◌}
use mathlib.Core.Bool.{Bool, true, false}
use mathlib.Core.List.{List, ◌++◌}
use Prim.Native.Nat.{ℕ, suc, ◌+◌, ◌-◌, ◌≤◌, ◌<◌, min}
use native.Mathlib.Omega.{arith}
use native.Mathlib.Decide.{dec_le}
use lib.ListN.{length, get_or, take, drop, length-append, length-drop}
use lib.Seq.{length-take-le, get_or-take, take-take, take-add, take_all, take_at, drop_at, drop-drop, get_or-drop}
use borrow.Author.Tests.{le-ltb, lt-ltb, le-leb, lt-leb}
use Rattle.definition.specs.Syntax.{pick, section}
use Rattle.laws.proofs.Steps.{pick_true, pick_false}
use Rattle.replies.specs.declared.Reply.{Reply}
use Rattle.sections.specs.declared.Bounds.{Bounds}
use Rattle.sections.specs.declared.Section.{Section}
use Rattle.sections.specs.Sections.{bounds_at, bounds_of, section_of, has_section, order_of, bounds_in, part_of, PlacedPart, PartOf}

-- ## One section

module _ (ws : List ℕ) (n at : ℕ) (fits : n ≤ length ws) where
  pub none_at : n ≤ at → bounds_at (take n ws) at ≡ (n, n)
  unfolding bounds_at pick
  none_at h = rw (length-take-le n ws fits, le-ltb at n h)

  pub runs_past : at < n → n - (at + 1) < get_or ws at 0 → bounds_at (take n ws) at ≡ (n, n)
  unfolding bounds_at pick
  runs_past h k = rw (length-take-le n ws fits, lt-ltb at n h, get_or-take n ws at 0 h, lt-leb (get_or ws at 0) (n - (at + 1)) k)

  pub found_at : at < n → get_or ws at 0 ≤ n - (at + 1) → bounds_at (take n ws) at ≡ (at + 1, at + 1 + get_or ws at 0)
  unfolding bounds_at pick
  found_at h k = rw (length-take-le n ws fits, lt-ltb at n h, get_or-take n ws at 0 h, le-leb (get_or ws at 0) (n - (at + 1)) k)

-- ## A section that stands at a place, before other words

module _ (ws vs qs : List ℕ) (p : ℕ) (h : drop p ws ≡ section vs ++ qs) where
  pub long : length ws ≡ p + 1 + length vs + length qs
  unfolding section
  long = omega (arith, ap length h, length-drop p ws, length-append vs qs)

  pub count_there : get_or ws p 0 ≡ length vs
  unfolding section
  count_there = let e : p ≡ p + 0 = omega arith in ap (λ (k : ℕ). get_or ws k 0) e ∙ (sym (get_or-drop p ws 0 0) ∙ ap (λ (l : List ℕ). get_or l 0 0) h)

  pub bounds_there : bounds_at ws p ≡ (p + 1, p + 1 + length vs)
  unfolding bounds_at pick
  bounds_there = rw (lt-ltb p (length ws) (omega (arith, long)), count_there, le-leb (length vs) (length ws - (p + 1)) (omega (arith, long)))

  past_count : drop (p + 1) ws ≡ vs ++ qs
  unfolding section
  past_count = sym (drop-drop 1 p ws) ∙ ap (drop 1) h

  pub words_there : take (p + 1 + length vs - (p + 1)) (drop (p + 1) ws) ≡ vs
  words_there = let e : p + 1 + length vs - (p + 1) ≡ length vs = omega arith in rw (e, past_count) (take_at vs qs (length vs) refl)

  pub next_there : drop (p + 1 + length vs) ws ≡ qs
  next_there = sym (drop-drop (length vs) (p + 1) ws) ∙ ap (drop (length vs)) past_count ∙ drop_at vs qs (length vs) refl

-- ## A part of the first n words is a part of the slice

part_of_take : (ws : List ℕ) (a b n : ℕ) → a ≤ b → b ≤ n → n ≤ length ws → take (b - a) (drop a (take n ws)) ≡ take (b - a) (drop a ws)
part_of_take ws a b n h k l =
    let e : n ≡ a + (n - a) = omega arith in
    let d : drop a (take n ws) ≡ take (n - a) (drop a ws) =
    ap (λ (m : ℕ). drop a (take m ws)) e ∙ ap (drop a) (take-add a (n - a) ws)
    ∙ drop_at (take a ws) (take (n - a) (drop a ws)) a (length-take-le a ws (omega arith)) in
    ap (take (b - a)) d ∙ take-take (b - a) (n - a) (drop a ws) (omega arith)

-- the length given, or the slice's own where that is less
pub cut : (ws : List ℕ) (len n : ℕ) → n ≡ min (length ws) len → take n ws ≡ take len ws
cut ws len n e =
    elim (dec_le len (length ws)) [
      | yes h ↦ (let i : n ≡ len = omega arith in rw i)
      | no h ↦ (let i : n ≡ length ws = omega arith in rw i (take_all (length ws) ws (omega arith) ∙ sym (take_all len ws (omega arith))))
    ]

pub part_of_lem : (ws : List ℕ) (len k n : ℕ) (b : Bounds) → n ≡ min (length ws) len → bounds_of k (take n ws) ≡ (b.from, b.to)
    → b.from ≤ b.to → b.to ≤ n → PartOf ws len k b
unfolding section_of
part_of_lem ws len k n b c e o w = record {
  place = rw (← cut ws len n c) e;
  is = sym (rw (← cut ws len n c, e) (part_of_take ws b.from b.to n o w (omega arith)));
  order = o;
  within = omega arith;
}

pub next_of : (k : ℕ) (ws : List ℕ) {f t : ℕ} {c : ℕ × ℕ} → bounds_of k ws ≡ (f, t) → bounds_at ws t ≡ c → bounds_of (k + 1) ws ≡ c
unfolding bounds_of
next_of k ws e h = let i : k + 1 ≡ suc k = omega arith in rw (i, e, h)

pub first_of : (ws : List ℕ) {c : ℕ × ℕ} → bounds_at ws 0 ≡ c → bounds_of 0 ws ≡ c
unfolding bounds_of
first_of ws h = h

-- ## By the reply's code

module _ {ws : List ℕ} {r : Reply} {s : Section} {t : Bool} (is : t ≡ has_section s r.code) where
  pub some_part : {k : ℕ} {b : Bounds} → t ≡ true → k ≡ order_of s → PartOf ws r.len k b → PlacedPart ws r s b
  unfolding bounds_in part_of
  some_part h e p = record {
    place = pick_true _ _ (sym is ∙ h) ∙ rw e at p.place;
    is = rw e at p.is ∙ sym (pick_true _ _ (sym is ∙ h));
    order = p.order;
    within = p.within;
  }

  pub no_part : t ≡ false → PlacedPart ws r s (record { from = 0; to = 0 })
  unfolding bounds_in part_of
  no_part h = record { place = pick_false _ _ (sym is ∙ h); is = sym (pick_false _ _ (sym is ∙ h)); order = omega arith; within = omega arith }
