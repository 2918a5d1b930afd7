-- Nodes by their parts, and the tree by its nodes.
use mathlib.Core.Path.{◌≡◌, refl, sym, ◌∙◌, ap}
use mathlib.Core.List.{List, [], ◌∷◌, ◌++◌, append_assoc}
use Prim.Native.Nat.{ℕ, ◌+◌, ◌-◌, ◌≤◌, ◌<◌}
use native.Mathlib.Omega.{arith}
use lib.ListN.{length, get_or}
use Rattle.std.specs.Prelude.{Option, Some}
use Rattle.std.specs.Bool.{then_some}
use Rattle.definition.specs.Syntax.{Ty, ty_words, Ctx, ctx_words, Judgement, section, no_section, sections, ctx_section, ty_section, judgement_words, Trees, leaf, ◌&◌, children, tree_words, trees_words}
use Rattle.layout.specs.Denotes.{Den, Run}
use Rattle.layout.specs.declared.Span.{Span}
use Rattle.layout.proofs.Places.{expr_place}
use Rattle.judging.specs.Asking.{Asks, as_infer, as_check, as_app, as_sub, as_inst_l, as_inst_r}
use Rattle.judging.specs.Nodes.{NodesAt, no_nodes, a_node}
use Rattle.judging.specs.declared.Ask.{Ask}
use Rattle.judging.proofs.Nodes.{◌+++◌, nodes_join}
use Rattle.writing.specs.Spelling.{Just, ◌Then◌, AfterCount, Spelled}
use Rattle.writing.specs.Types.{OfPart}
use Rattle.writing.specs.Contexts.{OfEntries, OfContext}
use Rattle.writing.proofs.Spelling.{join, spelled_as, spelled_first, spelled_second}
use Rattle.writing.proofs.After.{span}
use Rattle.report.specs.declared.Node.{Node}
use Rattle.report.specs.Nodes.{Filled, fills, NodeRead, Three, NodeSaid, said_words, OfNode, OfNodes, output_at}

-- ## Sections

pub context_section : {q w : List ℕ} {t at n : ℕ} {Γ : Ctx} → Run q w t at n Γ → AfterCount (OfEntries q w t at n) (ctx_section Γ)
unfolding ctx_section
context_section {Γ = Γ} r = record { inner = ctx_words Γ; spelled = record { it = Γ; stands = r; is = refl }; is = refl }

pub type_section : {q w : List ℕ} {t r : ℕ} {A : Ty} → Den q w t r A → AfterCount (OfPart q w t (Some r)) (ty_section A)
unfolding ty_section
type_section {A = A} d = record { inner = ty_words A; spelled = record { it = A; stands = d; is = refl }; is = refl }

pub unused_section : AfterCount (Just []) no_section
unfolding no_section section
unused_section = record { inner = []; spelled = record { is = refl }; is = refl }

-- ## A node: three words and five sections

abbrev pub Sections : List ℕ → List ℕ → ℕ → Span → Option ℕ → Option ℕ → Span → Option ℕ → List ℕ → Type 0
Sections q w t g l r h c =
    AfterCount (OfEntries q w t g.at g.n)
    Then AfterCount (OfPart q w t l)
    Then AfterCount (OfPart q w t r)
    Then AfterCount (OfEntries q w t h.at h.n)
    Then AfterCount (OfPart q w t c)

abbrev pub NodeParts : List ℕ → List ℕ → ℕ → Node → List ℕ → Type 0
NodeParts q w t n = Three n.rule n.kids n.place Then Sections q w t n.input n.left n.right n.output n.result

-- what a judgement's node says after rule and number of children
abbrev Filling : List ℕ → List ℕ → ℕ → Span → Ask → Span → ℕ → Filled → List ℕ → Type 0
Filling q w t g a h ty f = Sections q w t g (then_some f.left a.left) (then_some f.right a.right) h (then_some f.result ty)

record SaidOf (q w : List ℕ) (t : ℕ) (g : Span) (a : Ask) (h : Span) (ty : ℕ) (ws : List ℕ) : Type 0 where
  rest : List ℕ
  parts : Filling q w t g a h ty (fills a.kind) rest
  is : ws ≡ a.ex ∷ rest

module _ {q w : List ℕ} {t ty : ℕ} {g h : Span} {k : Ask} where
  said_by : {p : ℕ} {a b c d e : List ℕ} (n : ℕ) → k.kind ≡ n → p ≡ k.ex → AfterCount (OfEntries q w t g.at g.n) a
      → AfterCount (OfPart q w t (then_some (fills n).left k.left)) b → AfterCount (OfPart q w t (then_some (fills n).right k.right)) c
      → AfterCount (OfEntries q w t h.at h.n) d → AfterCount (OfPart q w t (then_some (fills n).result ty)) e → SaidOf q w t g k h ty (p ∷ sections a b c d e)
  unfolding sections
  said_by {a = a} {b = b} {c = c} {d = d} {e = e} n f i x y z u v = record {
    rest = a ++ (b ++ (c ++ (d ++ e)));
    parts = rw f (join a (b ++ (c ++ (d ++ e))) x (join b (c ++ (d ++ e)) y (join c (d ++ e) z (join d e u v))));
    is = ap (λ (p : ℕ). p ∷ a ++ (b ++ (c ++ (d ++ e)))) i;
  }

  said_of : {j : Judgement} {C : Ty} {Δ : Ctx} → Asks q w t g k j → Run q w t h.at h.n Δ → Den q w t ty C
      → SaidOf q w t g k h ty (judgement_words j C Δ)
  unfolding judgement_words
  said_of (as_infer f r x) o c = said_by 1 f (expr_place x) (context_section r) unused_section unused_section (context_section o) (type_section c)
  said_of (as_check f r x d) o c = said_by 2 f (expr_place x) (context_section r) unused_section (type_section d) (context_section o) unused_section
  said_of (as_app f r x d) o c = said_by 3 f (expr_place x) (context_section r) (type_section d) unused_section (context_section o) (type_section c)
  said_of (as_sub f z r d e) o c = said_by 4 f (sym z) (context_section r) (type_section d) (type_section e) (context_section o) unused_section
  said_of (as_inst_l f z r d e) o c = said_by 5 f (sym z) (context_section r) (type_section d) (type_section e) (context_section o) unused_section
  said_of (as_inst_r f z r d e) o c = said_by 6 f (sym z) (context_section r) (type_section d) (type_section e) (context_section o) unused_section

pub node_parts : {q w : List ℕ} {t m : ℕ} {n : Node} → NodeRead w m n → (ws : List ℕ) → OfNode q w t m ws → NodeParts q w t n ws
node_parts {q} {w} {t} {m} {n} y ws x =
    let a = x.stands.node in
    let k = a.words in
    let s = said_of a.asks a.out a.den in
    let e : ws ≡ n.rule ∷ n.kids ∷ n.place ∷ s.rest =
    x.is ∙ rw (s.is, y.rule, y.kids, y.place, k.rule_is, k.kids_is, k.place_is) in
    let p : Sections q w t n.input n.left n.right n.output n.result s.rest =
    rw (y.in_at, y.in_n, y.left, y.right, y.out_at, y.out_n, y.result, k.in_at, k.in_n, k.left_is, k.right_is, k.out_at, k.out_n, k.ty_is, k.kind_is) s.parts in
    rw e (join (n.rule ∷ n.kids ∷ n.place ∷ []) s.rest (record { is = refl }) p)

pub record Parts (q w : List ℕ) (t : ℕ) (n : Node) : Type 0 where
  pub input : Spelled q w t (AfterCount (OfContext q w t n.input))
  pub left : Spelled q w t (AfterCount (OfPart q w t n.left))
  pub right : Spelled q w t (AfterCount (OfPart q w t n.right))
  pub output : Spelled q w t (AfterCount (OfContext q w t n.output))
  pub result : Spelled q w t (AfterCount (OfPart q w t n.result))

pub node_spelled : {q w : List ℕ} {t m : ℕ} {n : Node} → NodeRead w m n → Spelled q w t (OfNode q w t m) → Parts q w t n
node_spelled y x =
    let from_input = spelled_second (spelled_as (node_parts y) x) in
    let from_left = spelled_second from_input in
    let from_right = spelled_second from_left in
    let from_output = spelled_second from_right in
    record {
      input = spelled_first from_input;
      left = spelled_first from_left;
      right = spelled_first from_right;
      output = spelled_first from_output;
      result = spelled_second from_output;
    }

pub output_read : {w : List ℕ} {m : ℕ} {n : Node} → NodeRead w m n → n.output ≡ output_at w m
output_read {w} {m} {n} y = ap (λ (i : ℕ). span i n.output.n) y.out_at ∙ ap (λ (i : ℕ). span (get_or w (m + 7) 0) i) y.out_n

-- ## The tree

trees_append : (ts us : Trees) → trees_words (ts +++ us) ≡ trees_words ts ++ trees_words us
unfolding tree_words
trees_append leaf us = refl
trees_append (t & ts) us =
    ap (λ (x : List ℕ). tree_words t ++ x) (trees_append ts us) ∙ sym (append_assoc (tree_words t) (trees_words ts) (trees_words us))

pub nodes_first : {q w : List ℕ} {t lo hi : ℕ} → lo < hi → (ws : List ℕ) → OfNodes q w t lo hi ws
    → (OfNode q w t (hi - 12) Then OfNodes q w t lo (hi - 12)) ws
unfolding tree_words
nodes_first {q} {w} {t} {lo} {hi} l ws x = rw x.is (go x.stands.nodes x.stands.within)
  where
    go : {ts : Trees} → NodesAt q w t lo hi ts → hi ≤ length w → (OfNode q w t (hi - 12) Then OfNodes q w t lo (hi - 12)) (trees_words ts)
    go (no_nodes e) b = absurd (omega arith)
    go (a_node {mid = mid} {m = m} {r = r} {j = j} {C = C} {Δ = Δ} {ts = ts} {us = us} e o n k u v) b =
        let h : hi - 12 ≡ m = omega arith in
        let said : NodeSaid = record { rule = r; kids = children ts; judgement = j; type = C; context = Δ } in
        rw (h, append_assoc (said_words said) (trees_words ts) (trees_words us), ← trees_append ts us)
        (join (said_words said) (trees_words (ts +++ us))
        (record { it = said; stands = record { node = n; within = omega arith }; is = refl })
        (record { it = ts +++ us; stands = record { nodes = nodes_join k v; within = omega arith }; is = refl }))

pub nodes_room : {q w : List ℕ} {t lo hi : ℕ} {ws : List ℕ} → lo < hi → OfNodes q w t lo hi ws → 12 ≤ hi
nodes_room {q} {w} {t} {lo} {hi} l x = go x.stands.nodes
  where
    go : {ts : Trees} → NodesAt q w t lo hi ts → 12 ≤ hi
    go (no_nodes e) = absurd (omega arith)
    go (a_node e o n k u v) = omega arith

pub nodes_none : {q w : List ℕ} {t lo hi : ℕ} → hi ≤ lo → (ws : List ℕ) → OfNodes q w t lo hi ws → ws ≡ []
unfolding tree_words
nodes_none {q} {w} {t} {lo} {hi} l ws x = x.is ∙ go x.stands.nodes
  where
    go : {ts : Trees} → NodesAt q w t lo hi ts → trees_words ts ≡ []
    go (no_nodes e) = refl
    go (a_node e o n k u v) = absurd (omega arith)
