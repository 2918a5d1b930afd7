-- Two readings of words under the same labels: what both give, and what they come to one after another.
use mathlib.Core.Path.{◌≡◌, refl}
use Prim.Native.Nat.{ℕ, zero, suc, ◌≤◌, ◌<◌}
use native.Mathlib.Omega.{arith}
use mathlib.Core.Bool.{true}
use mathlib.Core.List.{List, [], ◌∷◌, ◌++◌, append-nil, append_assoc}
use lib.ListN.{length, length-append}
use lib.Seq.{take_at, drop_at}
use lib.Dec.{leb, ltb, le→leb, lt→ltb}
use Rattle.laws.proofs.Steps.{is_true}
use Rattle.definition.specs.Syntax.{pick, TmVar, TyVar}
use Rattle.definition.specs.Question.{Read, got, Reader, next, ◌>>=◌, give, bad_shape, word, any, within, written, variable, type_name, row, one_of, end, whole, counted, empty, Mode, plain, strict, mode}
use Rattle.alike.specs.Alike.{Pairing, Label, the, half, truth, section, ReplyName, InQuestions, Each, none, more}
use Rattle.alike.proofs.Related.{VarR, NameR}
use Rattle.alike.proofs.Words.{length_l, length_r, InTwo, parts, split_e}

-- what both give: values that are alike, at the same next place, with the rests left
pub data GotR {A : Type 0} (W : A → A → Type 0) (r r' : List ℕ) : Read A → Read A → Type 0 where
  got_r : {a a' : A} {q : ℕ} → W a a' → GotR W r r' (got a q r) (got a' q r')

-- from words under the labels s, whatever comes after
pub record ReadsAlike (P : Pairing) {A : Type 0} (W : A → A → Type 0) (m m' : Reader A) (s : List Label) : Type 0 where
  pub at : {u u' : List ℕ} → Each (InQuestions P) s u u' → (p : ℕ) (r r' : List ℕ) → GotR W r r' (m p (u ++ r)) (m' p (u' ++ r'))

-- the same where nothing comes after: a section
pub record Fills (P : Pairing) {A : Type 0} (W : A → A → Type 0) (m m' : Reader A) (s : List Label) : Type 0 where
  pub at : {u u' : List ℕ} → Each (InQuestions P) s u u' → (p : ℕ) → GotR W [] [] (m p u) (m' p u')

-- ## Items

-- what is done with what was got
pub next_r : {A B : Type 0} {W : A → A → Type 0} {U : B → B → Type 0} {v v' r r' : List ℕ} {o o' : Read B} (f f' : B → Reader A)
    → GotR U v v' o o'
    → ((b b' : B) (q : ℕ) → U b b' → GotR W r r' (f b q v) (f' b' q v')) → GotR W r r' (next o f) (next o' f')
unfolding next
next_r f f' (got_r w) h = h _ _ _ w

module _ {P : Pairing} {A : Type 0} {W : A → A → Type 0} where
  give_at : {a a' : A} {u u' : List ℕ} → W a a' → Each (InQuestions P) [] u u' → (p : ℕ) (r r' : List ℕ)
      → GotR W r r' (got a p (u ++ r)) (got a' p (u' ++ r'))
  give_at w none p r r' = got_r w

  pub give_r : (a a' : A) → W a a' → ReadsAlike P W (give a) (give a') []
  unfolding give
  give_r a a' w = record { at = give_at w }

  -- a code, which chooses the reader
  code_at : {n : ℕ} {s : List Label} {u u' : List ℕ} (rows rows' : List (ℕ × Reader A))
      → ((p : ℕ) → ReadsAlike P W (row n rows (bad_shape p)) (row n rows' (bad_shape p)) s) → Each (InQuestions P) (the n ∷ s) u u'
      → (p : ℕ) (r r' : List ℕ) → GotR W r r' (one_of rows p (u ++ r)) (one_of rows' p (u' ++ r'))
  unfolding one_of word
  code_at rows rows' h (more InQuestions.same e) p r r' = (h p).at e (suc p) r r'

  pub code_r : {n : ℕ} {s : List Label} (rows rows' : List (ℕ × Reader A))
      → ((p : ℕ) → ReadsAlike P W (row n rows (bad_shape p)) (row n rows' (bad_shape p)) s)
      → ReadsAlike P W (one_of rows) (one_of rows') (the n ∷ s)
  code_r rows rows' h = record { at = code_at rows rows' h }

  module _ {B : Type 0} {U : B → B → Type 0} {m m' : Reader B} {s : List Label} where
    bind_at : {t : List Label} {w w' : List ℕ} (f f' : B → Reader A) → ReadsAlike P U m m' s → ((b b' : B) → U b b' → ReadsAlike P W (f b) (f' b') t)
        → InTwo (InQuestions P) s t w w' → (p : ℕ) (r r' : List ℕ) → GotR W r r' (next (m p (w ++ r)) f) (next (m' p (w' ++ r')) f')
    bind_at f f' g h (parts {u = u} {u' = u'} {v = v} {v' = v'} x y) p r r' =
        rw (append_assoc u v r, append_assoc u' v' r') (next_r f f' (g.at x p (v ++ r) (v' ++ r')) (λ b b' q w. (h b b' w).at y q r r'))

    -- an item, and what comes then
    pub bind_r : {f f' : B → Reader A} {t : List Label} → ReadsAlike P U m m' s → ((b b' : B) → U b b' → ReadsAlike P W (f b) (f' b') t)
        → ReadsAlike P W (◌>>=◌ m f) (◌>>=◌ m' f') (s ++ t)
    unfolding ◌>>=◌
    bind_r {f = f} {f' = f'} g h = record { at = λ e. bind_at f f' g h (split_e s e) }

    -- the last item
    pub last_r : (f f' : B → A) → ReadsAlike P U m m' s → ((b b' : B) → U b b' → W (f b) (f' b'))
        → ReadsAlike P W (◌>>=◌ m λ b. give (f b)) (◌>>=◌ m' λ b. give (f' b)) s
    unfolding ◌>>=◌ give
    last_r f f' g h = record { at = λ e p r r'. next_r _ _ (g.at e p r r') (λ b b' q w. got_r (h b b' w)) }

    -- the last item of a section
    pub end_fills : (f f' : B → A) → Fills P U m m' s → ((b b' : B) → U b b' → W (f b) (f' b'))
        → Fills P W (◌>>=◌ m λ b. ◌>>=◌ end λ t. give (f b)) (◌>>=◌ m' λ b. ◌>>=◌ end λ t. give (f' b)) s
    unfolding ◌>>=◌ next end give
    end_fills f f' g h = record { at = λ e p. next_r _ _ (g.at e p) (λ b b' q w. got_r (h b b' w)) }

-- ## One word

pub record Takes {A : Type 0} (m : Reader A) (w : ℕ) (a : A) : Type 0 where
  pub is : (p : ℕ) (ws : List ℕ) → m p (w ∷ ws) ≡ got a (suc p) ws

within_takes : {low high w : ℕ} → low ≤ w → w ≤ high → Takes (within low high) w w
unfolding within word pick give
within_takes {low} {high} {w} h k =
    record { is = λ p ws. rw (is_true (leb low w) (le→leb low w h), is_true (leb w high) (le→leb w high k)) refl }

any_takes : {w : ℕ} → Takes any w w
unfolding any word give
any_takes = record { is = λ p ws. refl }

variable_takes : {x : ℕ} → x < 1_000_000 → Takes (variable written) x (record { number = x })
unfolding variable written word pick ◌>>=◌ next give
variable_takes {x} h = record { is = λ p ws. rw (is_true (ltb x 1_000_000) (lt→ltb x 1_000_000 h)) refl }

pub type_name_takes : {a : ℕ} → a < 1_000_000 → Takes (type_name written) a (record { number = a })
unfolding type_name written word pick ◌>>=◌ next give
type_name_takes {a} h = record { is = λ p ws. rw (is_true (ltb a 1_000_000) (lt→ltb a 1_000_000 h)) refl }

pub mode_takes : (m : ℕ) → m ≤ 1 → (k : Mode) × Takes mode m k
unfolding mode one_of word row pick give
mode_takes zero h = (plain, record { is = λ p ws. refl })
mode_takes (suc zero) h = (strict, record { is = λ p ws. refl })
mode_takes (suc (suc m)) h = absurd (omega arith)

-- two words, and what both readers go on with
data GoOn (P : Pairing) {A B : Type 0} (W : A → A → Type 0) (m m' : Reader B) (f f' : B → Reader A) (s : List Label) (w w' : ℕ) : Type 0 where
  go : {b b' : B} → Takes m w b → Takes m' w' b' → ReadsAlike P W (f b) (f' b') s → GoOn P W m m' f f' s w w'

module _ {P : Pairing} {A B : Type 0} {W : A → A → Type 0} {m m' : Reader B} {f f' : B → Reader A} {s : List Label} where
  go_at : {w w' : ℕ} {u u' : List ℕ} → GoOn P W m m' f f' s w w' → Each (InQuestions P) s u u'
      → (p : ℕ) (r r' : List ℕ) → GotR W r r' (next (m p (w ∷ u ++ r)) f) (next (m' p (w' ∷ u' ++ r')) f')
  unfolding next
  go_at {u = u} {u' = u'} (go t t' h) e p r r' = rw (t.is p (u ++ r), t'.is p (u' ++ r')) (h.at e (suc p) r r')

  word_at : {k : Label} {u u' : List ℕ} → ((w w' : ℕ) → InQuestions P k w w' → GoOn P W m m' f f' s w w') → Each (InQuestions P) (k ∷ s) u u'
      → (p : ℕ) (r r' : List ℕ) → GotR W r r' (next (m p (u ++ r)) f) (next (m' p (u' ++ r')) f')
  word_at h (more x e) = go_at (h _ _ x) e

  word_r : {k : Label} → ((w w' : ℕ) → InQuestions P k w w' → GoOn P W m m' f f' s w w') → ReadsAlike P W (◌>>=◌ m f) (◌>>=◌ m' f') (k ∷ s)
  unfolding ◌>>=◌
  word_r h = record { at = word_at h }

module _ {P : Pairing} {A : Type 0} {W : A → A → Type 0} {s : List Label} where
  -- a variable's name
  pub variable_r : (f f' : TmVar → Reader A) → ((x x' : TmVar) → VarR P x x' → ReadsAlike P W (f x) (f' x') s)
      → ReadsAlike P W (◌>>=◌ (variable written) f) (◌>>=◌ (variable written) f') (Label.variable ∷ s)
  variable_r f f' h = word_r by
    where
      by : (w w' : ℕ) → InQuestions P Label.variable w w' → GoOn P W (variable written) (variable written) f f' s w w'
      by w w' (InQuestions.variables x) = go (variable_takes x.low) (variable_takes x.low') (h _ _ (record { numbers = x }))

  -- a type's name
  pub type_name_r : (f f' : TyVar → Reader A) → ((a a' : TyVar) → NameR P a a' → ReadsAlike P W (f a) (f' a') s)
      → ReadsAlike P W (◌>>=◌ (type_name written) f) (◌>>=◌ (type_name written) f') (Label.type_name ∷ s)
  type_name_r f f' h = word_r by
    where
      by : (w w' : ℕ) → InQuestions P Label.type_name w w' → GoOn P W (type_name written) (type_name written) f f' s w w'
      by w w' (InQuestions.type_names a) = go (type_name_takes a.low) (type_name_takes a.low') (h _ _ (record { numbers = ReplyName.written a }))

  -- an integer's half
  pub half_r : (f f' : ℕ → Reader A) → ((w w' : ℕ) → ReadsAlike P W (f w) (f' w') s) → ReadsAlike P W (◌>>=◌ any f) (◌>>=◌ any f') (half ∷ s)
  half_r f f' h = word_r (λ w w' x. go any_takes any_takes (h w w'))

  -- a truth value
  pub truth_r : (f f' : ℕ → Reader A) → ((w w' : ℕ) → ReadsAlike P W (f w) (f' w') s)
      → ReadsAlike P W (◌>>=◌ (within 0 1) f) (◌>>=◌ (within 0 1) f') (truth ∷ s)
  truth_r f f' h = word_r by
    where
      by : (w w' : ℕ) → InQuestions P truth w w' → GoOn P W (within 0 1) (within 0 1) f f' s w w'
      by w w' (InQuestions.truths t t') = go (within_takes (omega arith) t) (within_takes (omega arith) t') (h w w')

  -- a number that is the same in both
  pub within_r : {n : ℕ} (low high : ℕ) (f f' : ℕ → Reader A) → low ≤ n → n ≤ high → ReadsAlike P W (f n) (f' n) s
      → ReadsAlike P W (◌>>=◌ (within low high) f) (◌>>=◌ (within low high) f') (the n ∷ s)
  within_r {n} low high f f' l u h = word_r by
    where
      by : (w w' : ℕ) → InQuestions P (the n) w w' → GoOn P W (within low high) (within low high) f f' s w w'
      by w w' InQuestions.same = go (within_takes l u) (within_takes l u) h

  -- a section that is not filled
  pub empty_r : (f f' : ℕ → Reader A) → ReadsAlike P W (f 0) (f' 0) s → ReadsAlike P W (◌>>=◌ empty f) (◌>>=◌ empty f') (section [] ++ s)
  unfolding empty
  empty_r f f' h = within_r 0 0 f f' (omega arith) (omega arith) h

-- ## Sections

fits : (u r : List ℕ) (n : ℕ) → length u ≡ n → leb n (length (u ++ r)) ≡ true
fits u r n e = is_true (leb n (length (u ++ r))) (le→leb n (length (u ++ r)) (omega (arith, length-append u r)))

module _ {P : Pairing} {A : Type 0} {W : A → A → Type 0} {m m' : Reader A} {s : List Label} where
  pub fills : ReadsAlike P W m m' s → Fills P W m m' s
  fills g = record { at = λ {u} {u'} e p. rw (append-nil u, append-nil u') at (g.at e p [] []) }

  -- a count, and so many words
  counted_at : {u u' : List ℕ} → Fills P W m m' s → Each (InQuestions P) (section s) u u'
      → (p : ℕ) (r r' : List ℕ) → GotR W r r' (counted m p (u ++ r)) (counted m' p (u' ++ r'))
  unfolding counted word whole pick
  counted_at g (more {u = u} {u' = u'} InQuestions.same e) p r r' =
      let l = length_l e in
      let l' = length_r e in
      rw (fits u r _ l, fits u' r' _ l', take_at u r _ l, take_at u' r' _ l', drop_at u r _ l, drop_at u' r' _ l')
      (next_r _ _ ((end_fills _ _ g (λ a a' w. w)).at e (suc p)) (λ a a' q w. got_r w))

  pub counted_r : Fills P W m m' s → ReadsAlike P W (counted m) (counted m') (section s)
  counted_r g = record { at = counted_at g }
