-- What is asked, and nodes, stay where their words stay; trees after trees.
use mathlib.Core.Path.{◌≡◌, refl, sym, ◌∙◌}
use mathlib.Core.List.{List}
use Prim.Native.Nat.{ℕ, ◌+◌, ◌≤◌, ◌<◌}
use native.Mathlib.Nat.{le_trans, le_refl}
use native.Mathlib.Omega.{arith}
use lib.ListN.{get_or}
use Rattle.definition.specs.Syntax.{Ty, Ctx, Judgement, given, Rule, Trees, leaf, ◌&◌}
use Rattle.layout.specs.Words.{Keep, Put4}
use Rattle.layout.specs.Denotes.{Run}
use Rattle.layout.specs.declared.Span.{Span}
use Rattle.layout.proofs.Words.{keep_less, keep_trans}
use Rattle.layout.proofs.Denotes.{den_frame, run_frame}
use Rattle.judging.specs.declared.Ask.{Ask}
use Rattle.judging.specs.Asking.{Asks, as_infer, as_check, as_app, as_sub, as_inst_l, as_inst_r}
use Rattle.judging.specs.Nodes.{NodeWords, NodeAt, NodesAt, no_nodes, a_node}

-- ## What is asked

pub asks_frame : {q w w' : List ℕ} {t t' h : ℕ} {g : Span} {a : Ask} {j : Judgement} → Keep t h w w' → t ≤ t' → Asks q w t g a j → Asks q w' t' g a j
asks_frame kp le (as_infer k r x) = as_infer k (run_frame kp le r) x
asks_frame kp le (as_check k r x d) = as_check k (run_frame kp le r) x (den_frame kp le d)
asks_frame kp le (as_app k r x d) = as_app k (run_frame kp le r) x (den_frame kp le d)
asks_frame kp le (as_sub k z r d e) = as_sub k z (run_frame kp le r) (den_frame kp le d) (den_frame kp le e)
asks_frame kp le (as_inst_l k z r d e) = as_inst_l k z (run_frame kp le r) (den_frame kp le d) (den_frame kp le e)
asks_frame kp le (as_inst_r k z r d e) = as_inst_r k z (run_frame kp le r) (den_frame kp le d) (den_frame kp le e)

-- its context is a run of entries
pub asks_run : {q w : List ℕ} {t : ℕ} {g : Span} {a : Ask} {j : Judgement} → Asks q w t g a j → Run q w t g.at g.n (given j)
unfolding given
asks_run (as_infer k r x) = r
asks_run (as_check k r x d) = r
asks_run (as_app k r x d) = r
asks_run (as_sub k z r d e) = r
asks_run (as_inst_l k z r d e) = r
asks_run (as_inst_r k z r d e) = r

-- ## Nodes

-- the words of a range of places stay
abbrev pub SameWords : ℕ → ℕ → List ℕ → List ℕ → Type 0
SameWords lo hi w w' = (i : ℕ) → lo ≤ i → i < hi → get_or w i 0 ≡ get_or w' i 0

words_frame : {w w' : List ℕ} {m rule kids ty : ℕ} {g h : Span} {a : Ask} → SameWords m (m + 12) w w' → NodeWords w m rule kids g a h ty
    → NodeWords w' m rule kids g a h ty
words_frame {m = m} sm x = record {
  rule_is = sym (sm m (omega arith) (omega arith)) ∙ x.rule_is;
  kids_is = sym (sm (m + 1) (omega arith) (omega arith)) ∙ x.kids_is;
  place_is = sym (sm (m + 2) (omega arith) (omega arith)) ∙ x.place_is;
  in_at = sym (sm (m + 3) (omega arith) (omega arith)) ∙ x.in_at;
  in_n = sym (sm (m + 4) (omega arith) (omega arith)) ∙ x.in_n;
  left_is = sym (sm (m + 5) (omega arith) (omega arith)) ∙ x.left_is;
  right_is = sym (sm (m + 6) (omega arith) (omega arith)) ∙ x.right_is;
  out_at = sym (sm (m + 7) (omega arith) (omega arith)) ∙ x.out_at;
  out_n = sym (sm (m + 8) (omega arith) (omega arith)) ∙ x.out_n;
  ty_is = sym (sm (m + 9) (omega arith) (omega arith)) ∙ x.ty_is;
  kind_is = sym (sm (m + 10) (omega arith) (omega arith)) ∙ x.kind_is;
}

node_frame : {q w w' : List ℕ} {t t' h m kids : ℕ} {r : Rule} {j : Judgement} {C : Ty} {Δ : Ctx} → Keep t h w w' → t ≤ t' → SameWords m (m + 12) w w'
    → NodeAt q w t m r kids j C Δ → NodeAt q w' t' m r kids j C Δ
node_frame kp le sm x = record {
  input = x.input;
  ask = x.ask;
  output = x.output;
  ty = x.ty;
  words = words_frame sm x.words;
  asks = asks_frame kp le x.asks;
  out = run_frame kp le x.out;
  den = den_frame kp le x.den;
}

pub nodes_frame : {q w w' : List ℕ} {t t' h lo hi : ℕ} {ts : Trees} → Keep t h w w' → t ≤ t' → SameWords lo hi w w' → NodesAt q w t lo hi ts
    → NodesAt q w' t' lo hi ts
nodes_frame kp le sm (no_nodes e) = no_nodes e
nodes_frame kp le sm (a_node e a x k b u) =
    a_node e a (node_frame kp le (λ i l g. sm i (omega arith) (omega arith)) x)
    (nodes_frame kp le (λ i l g. sm i (omega arith) (omega arith)) k) b
    (nodes_frame kp le (λ i l g. sm i l (omega arith)) u)

-- ## Trees after trees

infixr 20 ◌+++◌
abbrev pub ◌+++◌ : Trees → Trees → Trees
leaf +++ us = us
(t & ts) +++ us = t & (ts +++ us)

nodes_order : {q w : List ℕ} {t lo hi : ℕ} {ts : Trees} → NodesAt q w t lo hi ts → lo ≤ hi
nodes_order (no_nodes e) = omega arith
nodes_order (a_node e a x k b u) = omega arith

pub nodes_join : {q w : List ℕ} {t lo mid hi : ℕ} {ts us : Trees} → NodesAt q w t mid hi ts → NodesAt q w t lo mid us → NodesAt q w t lo hi (ts +++ us)
nodes_join (no_nodes e) n = rw e at n
nodes_join (a_node e a x k b u) n = a_node e a x k (le_trans (nodes_order n) b) (nodes_join u n)

pub nodes_at : {q w : List ℕ} {t lo lo' hi hi' : ℕ} {ts : Trees} → lo ≡ lo' → hi ≡ hi' → NodesAt q w t lo hi ts → NodesAt q w t lo' hi' ts
nodes_at e f n = rw (e, f) at n

-- ## A node that is written

pub node_keep : {w w₁ w₂ w₃ : List ℕ} {m a b c d a' b' c' d' a'' b'' c'' d'' : ℕ} → Put4 w w₁ m a b c d → Put4 w₁ w₂ (m + 4) a' b' c' d'
    → Put4 w₂ w₃ (m + 8) a'' b'' c'' d'' → Keep m (m + 12) w w₃
node_keep p q r =
    keep_trans (keep_less (le_refl _) (omega arith) p.keep)
    (keep_trans (keep_less (omega arith) (omega arith) q.keep) (keep_less (omega arith) (omega arith) r.keep))

pub node_words : {w w₁ w₂ w₃ : List ℕ} {m rule kids ty z : ℕ} {g h : Span} {a : Ask} → Put4 w w₁ m rule kids a.ex g.at
    → Put4 w₁ w₂ (m + 4) g.n a.left a.right h.at → Put4 w₂ w₃ (m + 8) h.n ty a.kind z → NodeWords w₃ m rule kids g a h ty
node_words {w₁ = w₁} {w₂ = w₂} {w₃ = w₃} {m = m} p q r = record {
  rule_is = first m (omega arith) (omega arith) ∙ p.w0;
  kids_is = first (m + 1) (omega arith) (omega arith) ∙ p.w1;
  place_is = first (m + 2) (omega arith) (omega arith) ∙ p.w2;
  in_at = first (m + 3) (omega arith) (omega arith) ∙ p.w3;
  in_n = second (m + 4) (omega arith) ∙ q.w0;
  left_is = second' 1 5 refl (omega arith) ∙ q.w1;
  right_is = second' 2 6 refl (omega arith) ∙ q.w2;
  out_at = second' 3 7 refl (omega arith) ∙ q.w3;
  out_n = r.w0;
  ty_is = third 1 9 refl ∙ r.w1;
  kind_is = third 2 10 refl ∙ r.w2;
}
  where
    first : (i : ℕ) → i < m + 4 → i < m + 8 → get_or w₃ i 0 ≡ get_or w₁ i 0
    first i l l' = sym (r.keep.below i l') ∙ sym (q.keep.below i l)

    second : (i : ℕ) → i < m + 8 → get_or w₃ i 0 ≡ get_or w₂ i 0
    second i l = sym (r.keep.below i l)

    second' : (k n : ℕ) → 4 + k ≡ n → k < 4 → get_or w₃ (m + n) 0 ≡ get_or w₂ (m + 4 + k) 0
    second' k n e l =
        let i : m + n ≡ m + 4 + k = omega arith in
        rw i (second (m + 4 + k) (omega arith))

    third : (k n : ℕ) → 8 + k ≡ n → get_or w₃ (m + n) 0 ≡ get_or w₃ (m + 8 + k) 0
    third k n e = let i : m + n ≡ m + 8 + k = omega arith in rw i
