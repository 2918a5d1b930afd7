-- Laws of what stands for words: one thing after the other, another way to say it, sections, words or none.
use mathlib.Core.Path.{◌≡◌, refl, sym, ◌∙◌, ap}
use mathlib.Core.List.{List, [], ◌∷◌, ◌++◌}
use Prim.Native.Nat.{ℕ, ◌+◌, ◌-◌, ◌≤◌, ◌<◌, ◌^◌, min}
use native.Mathlib.Omega.{arith}
use lib.ListN.{length, set, length-set, length-append}
use lib.Seq.{sets, length-sets}
use Rattle.definition.specs.Syntax.{section}
use Rattle.writing.specs.Spelling.{Just, ◌Then◌, AfterCount, Long, Spelled, RoomAt, PutWords, Writable, Writes}
use Rattle.writing.proofs.Placing.{sets_append, sets_cons, set_before}

-- ## Words at a place

pub past_none : (s : List ℕ) (p : ℕ) → PutWords s s p [] p
past_none s p = record { is = refl; next = omega arith }

pub past_length : {s s' : List ℕ} {p z : ℕ} {ws : List ℕ} → PutWords s s' p ws z → length s' ≡ length s
past_length {s} {p = p} {ws = ws} k = ap length k.is ∙ length-sets s p ws

past_append : {s s' s'' : List ℕ} {p z y : ℕ} {us vs : List ℕ} → PutWords s s' p us z → PutWords s' s'' z vs y → PutWords s s'' p (us ++ vs) y
past_append {s} {p = p} {z = z} {us = us} {vs = vs} a b = record {
  is = b.is ∙ ap (λ (x : List ℕ). sets x z vs) a.is ∙ sym (sets_append us vs s p a.next);
  next = omega (arith, a.next, b.next, length-append us vs);
}

room_first : {s : List ℕ} {p : ℕ} (us vs : List ℕ) → RoomAt s p (us ++ vs) → RoomAt s p us
room_first us vs r = record { room = omega (arith, r.room, length-append us vs); small = omega (arith, r.small, length-append us vs) }

room_next : {s s' : List ℕ} {p z : ℕ} (us vs : List ℕ) → RoomAt s p (us ++ vs) → PutWords s s' p us z → RoomAt s' z vs
room_next us vs r k = record {
  room = omega (arith, r.room, k.next, past_length k, length-append us vs);
  small = omega (arith, r.small, k.next, length-append us vs);
}

-- ## Another way to say it

module _ {S S' : List ℕ → Type 0} (f : (ws : List ℕ) → S ws → S' ws) where
  pub spelled_as : {q w : List ℕ} {t : ℕ} → Spelled q w t S → Spelled q w t S'
  spelled_as x = record { ground = x.ground; words = x.words; says = f x.words x.says }

  pub writable_as : {q w : List ℕ} {t : ℕ} {s : List ℕ} {p : ℕ} → Writable q w t S s p → Writable q w t S' s p
  unfolding spelled_as
  writable_as x = record { spelled = spelled_as x.spelled; room = x.room }

  pub writes_as : {s s' : List ℕ} {p z : ℕ} → Writes S' s s' p z → Writes S s s' p z
  writes_as k = record { past = λ ws x r. k.past ws (f ws x) r }

  pub long_as : {limit n : ℕ} → Long limit S' n → Long limit S n
  long_as k = record { is = λ ws x. k.is ws (f ws x) }

-- ## One after the other

pub join : {S S' : List ℕ → Type 0} (us vs : List ℕ) → S us → S' vs → (S Then S') (us ++ vs)
join us vs x y = record { us = us; vs = vs; first = x; second = y; is = refl }

module _ {S S' : List ℕ → Type 0} where
  pub writable_first : {q w : List ℕ} {t : ℕ} {s : List ℕ} {p : ℕ} → Writable q w t (S Then S') s p → Writable q w t S s p
  writable_first x = let y = x.spelled.says in record {
    spelled = record { ground = x.spelled.ground; words = y.us; says = y.first };
    room = room_first y.us y.vs (rw y.is at x.room);
  }

  pub writable_next : {q w : List ℕ} {t : ℕ} {s s' : List ℕ} {p z : ℕ} → Writable q w t (S Then S') s p → Writes S s s' p z
      → Writable q w t S' s' z
  writable_next x k =
      let y = x.spelled.says in
      let r = rw y.is at x.room in
      record {
        spelled = record { ground = x.spelled.ground; words = y.vs; says = y.second };
        room = room_next y.us y.vs r (k.past y.us y.first (room_first y.us y.vs r));
      }

  pub writes_then : {s s' s'' : List ℕ} {p z y : ℕ} → Writes S s s' p z → Writes S' s' s'' z y → Writes (S Then S') s s'' p y
  writes_then {s} {s'' = s''} {p = p} {y = y} k l = record { past = λ ws x r. go ws x (rw x.is at r) }
    where
      go : (ws : List ℕ) (x : (S Then S') ws) → RoomAt s p (x.us ++ x.vs) → PutWords s s'' p ws y
      go ws x r =
          let a = k.past x.us x.first (room_first x.us x.vs r) in
          rw x.is (past_append a (l.past x.vs x.second (room_next x.us x.vs r a)))

  pub spelled_first : {q w : List ℕ} {t : ℕ} → Spelled q w t (S Then S') → Spelled q w t S
  spelled_first x = record { ground = x.ground; words = x.says.us; says = x.says.first }

  pub spelled_second : {q w : List ℕ} {t : ℕ} → Spelled q w t (S Then S') → Spelled q w t S'
  spelled_second x = record { ground = x.ground; words = x.says.vs; says = x.says.second }

  pub long_then : {limit m n k : ℕ} → Long limit S m → Long limit S' n → k ≡ min (m + n) limit → Long limit (S Then S') k
  long_then f g e = record {
    is = λ ws x. omega (arith, ap length x.is, length-append x.us x.vs, f.is x.us x.first, g.is x.vs x.second);
  }

-- ## A section: its words are written past the place of their count, and then the count

pub writable_inner : {S : List ℕ → Type 0} {q w : List ℕ} {t : ℕ} {s : List ℕ} {p : ℕ} → Writable q w t (AfterCount S) s p → Writable q w t S s (p + 1)
unfolding section
writable_inner x = let y = x.spelled.says in record {
  spelled = record { ground = x.spelled.ground; words = y.inner; says = y.spelled };
  room = record { room = omega (arith, x.room.room, ap length y.is); small = omega (arith, x.room.small, ap length y.is) };
}

-- the count is a word, and has its place
pub record Counted (s s₁ : List ℕ) (p z : ℕ) : Type 0 where
  pub first : p + 1 ≤ z
  pub place : p < length s₁
  pub small : z ≤ 4294967295

pub counted : {S : List ℕ → Type 0} {q w : List ℕ} {t : ℕ} {s s₁ : List ℕ} {p z : ℕ} → Writable q w t (AfterCount S) s p → Writes S s s₁ (p + 1) z
    → Counted s s₁ p z
unfolding writable_inner
counted x k =
    let y = writable_inner x in
    let a = k.past _ y.spelled.says y.room in
    record {
      first = omega (arith, a.next);
      place = omega (arith, past_length a, y.room.room);
      small = omega (arith, a.next, y.room.small);
    }

section_past : {s s₁ s' : List ℕ} {p z : ℕ} {ws : List ℕ} → PutWords s s₁ (p + 1) ws z → s' ≡ set s₁ p (z - (p + 1)) → PutWords s s' p (section ws) z
unfolding section
section_past {s} {p = p} {z = z} {ws = ws} k e =
    let n : z - (p + 1) ≡ length ws = omega (arith, k.next) in
    let f = e ∙ ap (λ (x : List ℕ). set x p (z - (p + 1))) k.is ∙ set_before ws s (p + 1) p (z - (p + 1)) (omega arith) in
    record { is = rw n at (sets_cons s p (z - (p + 1)) (p + 1) ws refl refl f); next = omega (arith, k.next) }

pub writes_section : {S : List ℕ → Type 0} {s s₁ s' : List ℕ} {p z : ℕ} → Writes S s s₁ (p + 1) z → s' ≡ set s₁ p (z - (p + 1))
    → Writes (AfterCount S) s s' p z
unfolding section
writes_section k e = record {
  past = λ ws x r.
      rw x.is
      (section_past
      (k.past x.inner x.spelled
      (record { room = omega (arith, r.room, ap length x.is); small = omega (arith, r.small, ap length x.is) }))
      e);
}

-- a length that stops at 2 ^ 32, from one that stops there or one before
pub long_section : {S : List ℕ → Type 0} {limit n k : ℕ} → Long limit S n → 2 ^ 32 ≤ limit + 1 → k ≡ min (1 + n) (2 ^ 32) → Long (2 ^ 32) (AfterCount S) k
unfolding section
long_section f l e = record { is = λ ws x. omega (arith, ap length x.is, f.is x.inner x.spelled) }

-- ## Words that are known

pub just_room : {q w : List ℕ} {t : ℕ} {vs s : List ℕ} {p : ℕ} → Writable q w t (Just vs) s p → RoomAt s p vs
just_room x = rw x.spelled.says.is at x.room

pub writes_none : (s : List ℕ) (p : ℕ) → Writes (Just []) s s p p
writes_none s p = record { past = λ ws x r. rw x.is (past_none s p) }

pub writes_word : {s s₁ s' vs : List ℕ} {p m z a : ℕ} → s₁ ≡ set s p a → m ≡ p + 1 → Writes (Just vs) s₁ s' m z → Writes (Just (a ∷ vs)) s s' p z
writes_word {s} {s₁} {s'} {vs} {p} {m} {z} {a} e f k = record {
  past = λ ws x r. go ws x.is (record { room = omega (arith, r.room, ap length x.is, ap length e, length-set s p a); small = omega (arith, r.small, ap length x.is) });
}
  where
    go : (ws : List ℕ) → ws ≡ a ∷ vs → RoomAt s₁ m vs → PutWords s s' p ws z
    go ws g r =
        let y = k.past vs (record { is = refl }) r in
        rw g
        (record {
          is = sets_cons s p a m vs e f y.is;
          next = omega (arith, y.next);
        })

pub writes_two : {s s₁ s' : List ℕ} {p a b : ℕ} → s₁ ≡ set s p a → s' ≡ set s₁ (p + 1) b → Writes (Just (a ∷ b ∷ [])) s s' p (p + 2)
writes_two e f = writes_word e refl (writes_word f (omega arith) (writes_none _ _))

pub long_just : (vs : List ℕ) {limit : ℕ} → length vs ≤ limit → Long limit (Just vs) (length vs)
long_just vs l = record { is = λ ws x. omega (arith, ap length x.is) }

-- a length that stops at 2 ^ 32, from one that stops one before, where known words go first
pub long_after : {S : List ℕ → Type 0} (vs : List ℕ) {n k : ℕ} → Long 4294967295 S n → 1 ≤ length vs → k ≡ min (length vs + n) (2 ^ 32)
    → Long (2 ^ 32) (Just vs Then S) k
long_after vs f l e = record {
  is = λ ws x. omega (arith, ap length x.is, length-append x.us x.vs, ap length x.first.is, f.is x.vs x.second);
}
