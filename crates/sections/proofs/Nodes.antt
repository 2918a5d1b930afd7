-- Where nodes stand in a tree's words, and that a walk through them meets the definition's nodes.
use mathlib.Core.Path.{◌≡◌, refl, sym, ap, ◌∙◌}
use mathlib.Core.Bool.{Bool, true, false, false≢true, ◌&&◌}
use mathlib.Core.List.{List, [], ◌∷◌, ◌++◌, map, append_assoc}
use Prim.Native.Nat.{ℕ, zero, suc, ◌+◌, ◌-◌, ◌≤◌, ◌<◌}
use native.Mathlib.Omega.{arith}
use lib.ListN.{length, get_or, take, drop, length-append, length-drop, take-append-drop}
use lib.Seq.{take-length, length-take-le, drop-drop, drop-cons, get_or-drop}
use lib.Dec.{leb, ltb}
use borrow.Author.Tests.{le-ltb, lt-ltb, le-leb, ltb-true, leb-true}
use Rattle.definition.specs.Syntax.{pick, section, sections, no_section, ty_section, ctx_section, Judgement, infer, check, infer_app, subtype, inst, on_l, on_r, Ty, Ctx, Rule, judgement_words, rule_number, Tree, node, Trees, leaf, ◌&◌, children, tree_words, trees_words}
use Rattle.sections.specs.declared.Bounds.{Bounds}
use Rattle.sections.specs.declared.Node.{Node}
use Rattle.std.specs.Prelude.{Option, None, Some}
use Rattle.sections.specs.Sections.{bounds_at, PartAt}
use Rattle.sections.specs.Nodes.{whole_at, node_in, bounds, words_in, Finds, onward, nodes_from, nodes_in, Stated, stated, stated_in, state_words, states_words, of_node, of_tree, of_trees}
use Rattle.sections.proofs.Sections.{long, count_there, bounds_there, words_there, next_there}

-- ## Where a node stands

module _ (ws : List ℕ) (at : ℕ) where
  pub not_whole : length ws ≤ at → false ≡ whole_at ws at
  unfolding whole_at
  not_whole h = rw (le-ltb at (length ws) h)

  pub is_whole : at < length ws → leb (get_or ws at 0) (length ws - (at + 1)) ≡ whole_at ws at
  unfolding whole_at
  is_whole h = rw (lt-ltb at (length ws) h)

  inside : whole_at ws at ≡ true → (at < length ws) × (get_or ws at 0 ≤ length ws - (at + 1))
  unfolding whole_at
  inside = go (ltb at (length ws)) (ltb-true at (length ws)) (leb (get_or ws at 0) (length ws - (at + 1))) (leb-true _ _)
    where
      go : {A B : Type 0} (a : Bool) → (a ≡ true → A) → (b : Bool) → (b ≡ true → B) → (a && b) ≡ true → A × B
      go true f b g h = (f refl, g h)
      go false f b g h = absurd (false≢true h)

  past_end : length ws ≤ at → bounds_at ws at ≡ (length ws, length ws)
  unfolding bounds_at pick
  past_end h = rw (le-ltb at (length ws) h)

-- in all the words of the slice
exact : {ws : List ℕ} {at : ℕ} {b : Bounds} → PartAt ws (length ws) at b → bounds_at ws at ≡ (b.from, b.to)
exact {ws} {at} p = ap (λ (vs : List ℕ). bounds_at vs at) (sym (take-length ws)) ∙ p.is

module _ (ws : List ℕ) (at : ℕ) where
  pub no_node : length ws ≤ at + 3 → None ≡ node_in ws at
  unfolding node_in pick
  no_node h =
      let e : bounds_at ws (length ws) ≡ (length ws, length ws) = past_end ws (length ws) (omega arith) in
      rw (past_end ws (at + 3) h, e, e, e, ← not_whole ws (length ws) (omega arith))

  module _ {i l r o : Bounds} (input : PartAt ws (length ws) (at + 3) i) (left : PartAt ws (length ws) i.to l)
      (right : PartAt ws (length ws) l.to r) (output : PartAt ws (length ws) r.to o)
      {t : Bool} (last : t ≡ whole_at ws o.to) where
    pub broken_off : t ≡ false → None ≡ node_in ws at
    unfolding node_in pick
    broken_off h = rw (exact input, exact left, exact right, exact output, ← last, h)

    pub met : {e : Bounds} → t ≡ true → PartAt ws (length ws) o.to e
        → Some (record {
          rule = get_or ws at 0;
          children = get_or ws (at + 1) 0;
          place = get_or ws (at + 2) 0;
          input = i;
          left = l;
          right = r;
          output = o;
          result = e;
          end = e.to;
        })
        ≡ node_in ws at
    unfolding node_in pick
    met h result = rw (exact input, exact left, exact right, exact output, ← last, h, exact result)

-- ## A node that stands at a place, before other words

whole_there : (ws vs qs : List ℕ) (p : ℕ) → drop p ws ≡ section vs ++ qs → whole_at ws p ≡ true
unfolding whole_at
whole_there ws vs qs p h =
    let l = long ws vs qs p h in
    rw (lt-ltb p (length ws) (omega (arith, l)), count_there ws vs qs p h, le-leb (length vs) (length ws - (p + 1)) (omega (arith, l)))

-- the words of its sections, and then others
abbrev five_then : Stated → List ℕ → List ℕ
five_then S qs =
    section S.input ++ (section S.left ++ (section S.right ++ (section S.output ++ (section S.result ++ qs))))

module _ (ws : List ℕ) (S : Stated) (qs : List ℕ) (at : ℕ) (h : drop at ws ≡ state_words S ++ qs) where
  five_then_lem : drop at ws ≡ S.rule ∷ S.children ∷ S.place ∷ five_then S qs
  unfolding state_words sections
  five_then_lem = h ∙ simp append_assoc

  rule_there : get_or ws at 0 ≡ S.rule
  rule_there = let e : at ≡ at + 0 = omega arith in ap (λ (k : ℕ). get_or ws k 0) e ∙ (sym (get_or-drop at ws 0 0) ∙ ap (λ (l : List ℕ). get_or l 0 0) five_then_lem)

  children_there : get_or ws (at + 1) 0 ≡ S.children
  children_there = sym (get_or-drop at ws 1 0) ∙ ap (λ (l : List ℕ). get_or l 1 0) five_then_lem

  place_there : get_or ws (at + 2) 0 ≡ S.place
  place_there = sym (get_or-drop at ws 2 0) ∙ ap (λ (l : List ℕ). get_or l 2 0) five_then_lem

  five_there : drop (at + 3) ws ≡ five_then S qs
  five_there = sym (drop-drop 3 at ws) ∙ ap (drop 3) five_then_lem

  -- where the counts of the other four stand, and where the node ends
  abbrev p₁ : ℕ
  p₁ = at + 3 + 1 + length S.input

  abbrev p₂ : ℕ
  p₂ = p₁ + 1 + length S.left

  abbrev p₃ : ℕ
  p₃ = p₂ + 1 + length S.right

  abbrev p₄ : ℕ
  p₄ = p₃ + 1 + length S.output

  abbrev p₅ : ℕ
  p₅ = p₄ + 1 + length S.result

  left_there : drop p₁ ws ≡ section S.left ++ (section S.right ++ (section S.output ++ (section S.result ++ qs)))
  left_there = next_there ws S.input _ (at + 3) five_there

  right_there : drop p₂ ws ≡ section S.right ++ (section S.output ++ (section S.result ++ qs))
  right_there = next_there ws S.left _ p₁ left_there

  output_there : drop p₃ ws ≡ section S.output ++ (section S.result ++ qs)
  output_there = next_there ws S.right _ p₂ right_there

  result_there : drop p₄ ws ≡ section S.result ++ qs
  result_there = next_there ws S.output _ p₃ output_there

  abbrev placed : Node
  placed = record {
    rule = S.rule;
    children = S.children;
    place = S.place;
    input = bounds (at + 3 + 1, p₁);
    left = bounds (p₁ + 1, p₂);
    right = bounds (p₂ + 1, p₃);
    output = bounds (p₃ + 1, p₄);
    result = bounds (p₄ + 1, p₅);
    end = p₅;
  }

  node_there : node_in ws at ≡ Some placed
  unfolding node_in pick
  node_there =
      rw (
        bounds_there ws S.input _ (at + 3) five_there,
        bounds_there ws S.left _ p₁ left_there,
        bounds_there ws S.right _ p₂ right_there,
        bounds_there ws S.output _ p₃ output_there,
        bounds_there ws S.result _ p₄ result_there,
        whole_there ws S.result _ p₄ result_there,
        rule_there,
        children_there,
        place_there,
      )

  last_there : whole_at ws (bounds_at ws (bounds_at ws (bounds_at ws (bounds_at ws (at + 3)).1).1).1).1 ≡ true
  last_there =
      rw (
        bounds_there ws S.input _ (at + 3) five_there,
        bounds_there ws S.left _ p₁ left_there,
        bounds_there ws S.right _ p₂ right_there,
        bounds_there ws S.output _ p₃ output_there,
      ) (whole_there ws S.result _ p₄ result_there)

  stated_there : stated ws placed ≡ S
  stated_there =
      rw (
        words_there ws S.input _ (at + 3) five_there,
        words_there ws S.left _ p₁ left_there,
        words_there ws S.right _ p₂ right_there,
        words_there ws S.output _ p₃ output_there,
        words_there ws S.result _ p₄ result_there,
      )

  after_node : drop p₅ ws ≡ qs
  after_node = next_there ws S.result _ p₄ result_there

-- ## Whatever the words are

both : {A : Type 0} (a b : Bool) (x y : A) → pick a (pick b x y) y ≡ pick (a && b) x y
unfolding pick
both true b x y = refl
both false b x y = refl

-- the word at a place, and those past it
first_of : (ws : List ℕ) (p k : ℕ) → p < length ws → k ≡ p + 1 → drop p ws ≡ get_or ws p 0 ∷ drop k ws
first_of ws p k h e = let i : suc p ≡ k = omega arith in drop-cons ws p 0 h ∙ ap (λ (m : ℕ). get_or ws p 0 ∷ drop m ws) i

module _ (ws : List ℕ) (p : ℕ) where
  abbrev count : ℕ
  count = get_or ws p 0

  abbrev full : ℕ × ℕ
  full = (p + 1, p + 1 + count)

  abbrev none : ℕ × ℕ
  none = (length ws, length ws)

  bounds_are : bounds_at ws p ≡ pick (whole_at ws p) full none
  unfolding bounds_at whole_at
  bounds_are = both (ltb p (length ws)) (leb count (length ws - (p + 1))) full none

  -- a section that is not whole ends where no other begins
  whole_before : whole_at ws (bounds_at ws p).1 ≡ true → whole_at ws p ≡ true
  unfolding pick
  whole_before h = go (whole_at ws p) (rw bounds_are at h)
    where
      go : (b : Bool) → whole_at ws (pick b full none).1 ≡ true → b ≡ true
      go true k = refl
      go false k = not_whole ws (length ws) (omega arith) ∙ k

  stands : whole_at ws p ≡ true → drop p ws ≡ section (words_in ws (bounds (bounds_at ws p))) ++ drop (bounds_at ws p).1 ws
  unfolding section pick
  stands h =
      let i = inside ws p h in
      let m : p + 1 + count - (p + 1) ≡ count = omega arith in
      let k : length (take count (drop (p + 1) ws)) ≡ count = length-take-le count (drop (p + 1) ws) (omega (arith, i, length-drop (p + 1) ws)) in
      first_of ws p (p + 1) i.0 refl
      ∙ sym (rw (bounds_are, h, m, k, ← drop-drop count (p + 1) ws, take-append-drop count (drop (p + 1) ws)))

module _ (ws : List ℕ) (at : ℕ) where
  -- where the counts of the other four stand, if they do
  abbrev c₁ : ℕ
  c₁ = (bounds_at ws (at + 3)).1

  abbrev c₂ : ℕ
  c₂ = (bounds_at ws c₁).1

  abbrev c₃ : ℕ
  c₃ = (bounds_at ws c₂).1

  abbrev c₄ : ℕ
  c₄ = (bounds_at ws c₃).1

  abbrev found : Node
  found = record {
    rule = get_or ws at 0;
    children = get_or ws (at + 1) 0;
    place = get_or ws (at + 2) 0;
    input = bounds (bounds_at ws (at + 3));
    left = bounds (bounds_at ws c₁);
    right = bounds (bounds_at ws c₂);
    output = bounds (bounds_at ws c₃);
    result = bounds (bounds_at ws c₄);
    end = (bounds_at ws c₄).1;
  }

  three_first : at + 3 < length ws → drop at ws ≡ get_or ws at 0 ∷ get_or ws (at + 1) 0 ∷ get_or ws (at + 2) 0 ∷ drop (at + 3) ws
  three_first h =
      rw (
        first_of ws at (at + 1) (omega arith) refl,
        first_of ws (at + 1) (at + 2) (omega arith) (omega arith),
        first_of ws (at + 2) (at + 3) (omega arith) (omega arith),
      )

  met_there : whole_at ws c₄ ≡ true → Finds ws at (Some found)
  unfolding state_words sections pick
  met_there h =
      let h₃ = whole_before ws c₃ h in
      let h₂ = whole_before ws c₂ h₃ in
      let h₁ = whole_before ws c₁ h₂ in
      let h₀ = whole_before ws (at + 3) h₁ in
      let i = inside ws c₄ h in (
        rw (bounds_are ws c₄, h) (omega (arith, i)),
        three_first (inside ws (at + 3) h₀).0
            ∙ rw (stands ws (at + 3) h₀, stands ws c₁ h₁, stands ws c₂ h₂, stands ws c₃ h₃, stands ws c₄ h) (sym (simp append_assoc)),
      )

  none_there : whole_at ws c₄ ≡ false → Finds ws at None
  none_there h S qs d = false≢true (sym h ∙ last_there ws S qs at d)

-- what `node_in` answers, of any words
pub finds : (ws : List ℕ) (at : ℕ) → Finds ws at (node_in ws at)
unfolding node_in pick
finds ws at = go (whole_at ws (c₄ ws at)) refl
  where
    go : (b : Bool) → whole_at ws (c₄ ws at) ≡ b → Finds ws at (pick b (Some (found ws at)) None)
    go true h = met_there ws at h
    go false h = none_there ws at h

-- ## A walk

-- a node has eight words at least
state_long : (S : Stated) (qs : List ℕ) → 8 + length qs ≤ length (state_words S ++ qs)
unfolding state_words sections section
state_long S qs = simp length-append (omega arith)

module _ (ws : List ℕ) (at : ℕ) where
  pub met_past : {N : Node} → node_in ws at ≡ Some N → (at + 8 ≤ N.end) × (N.end ≤ length ws)
  met_past {N} e = let f = rw e at (finds ws at) in
      (omega (arith, f.0, ap length f.1, length-drop at ws, length-drop N.end ws, state_long (stated ws N) (drop N.end ws)), f.0)

same_onward : (f g : ℕ → List Node) (z : Option Node) → ((N : Node) → z ≡ Some N → f N.end ≡ g N.end) → onward f z ≡ onward g z
unfolding onward
same_onward f g (Some N) h = ap (λ (Ns : List Node). N ∷ Ns) (h N refl)
same_onward f g None h = refl

-- how many turns there may be does not matter
same_walk : (ws : List ℕ) (d e at : ℕ) → length ws ≤ at + d → length ws ≤ at + e → nodes_from d ws at ≡ nodes_from e ws at
unfolding nodes_from onward
same_walk ws zero zero at h k = refl
same_walk ws zero (suc e) at h k = rw (← no_node ws at (omega arith))
same_walk ws (suc d) zero at h k = rw (← no_node ws at (omega arith))
same_walk ws (suc d) (suc e) at h k =
    same_onward (λ p. nodes_from d ws p) (λ p. nodes_from e ws p) (node_in ws at) (λ N m. same_walk ws d e N.end (omega (arith, met_past ws at m)) (omega (arith, met_past ws at m)))

module _ (ws : List ℕ) (at : ℕ) where
  pub walk_ends : node_in ws at ≡ None → nodes_from (length ws) ws at ≡ []
  unfolding nodes_from onward
  walk_ends h = go (length ws)
    where
      go : (d : ℕ) → nodes_from d ws at ≡ []
      go zero = refl
      go (suc d) = rw h

  pub walk_goes_on : {N : Node} → node_in ws at ≡ Some N → nodes_from (length ws) ws at ≡ N ∷ nodes_from (length ws) ws N.end
  unfolding nodes_from onward
  walk_goes_on h = same_walk ws (length ws) (suc (length ws)) at (omega arith) (omega arith) ∙ rw h

-- so many turns are enough
walk : (ws : List ℕ) (Ss : List Stated) (d at : ℕ) → length Ss ≤ d → drop at ws ≡ states_words Ss → map (stated ws) (nodes_from d ws at) ≡ Ss
unfolding nodes_from onward states_words
walk ws [] zero at k h = refl
walk ws [] (suc d) at k h = rw (← no_node ws at (omega (arith, ap length h, length-drop at ws)))
walk ws (S ∷ Ss) zero at k h = elim k [ ]
walk ws (S ∷ Ss) (suc d) at k h =
    rw (
      node_there ws S (states_words Ss) at h,
      stated_there ws S (states_words Ss) at h,
      walk ws Ss d (p₅ ws S (states_words Ss) at h) (omega arith) (after_node ws S (states_words Ss) at h),
    )

more_words : (Ss : List Stated) → length Ss ≤ length (states_words Ss)
unfolding states_words state_words
more_words [] = omega arith
more_words (S ∷ Ss) = omega (arith, more_words Ss, length-append (state_words S) (states_words Ss))

pub states_met : (Ss : List Stated) → stated_in (states_words Ss) ≡ Ss
unfolding stated_in nodes_in
states_met Ss = walk (states_words Ss) Ss (length (states_words Ss)) 0 (more_words Ss) refl

-- ## The definition's trees

states_append : (Ss Rs : List Stated) → states_words (Ss ++ Rs) ≡ states_words Ss ++ states_words Rs
unfolding states_words
states_append [] Rs = refl
states_append (S ∷ Ss) Rs = rw (states_append Ss Rs) (sym (append_assoc (state_words S) (states_words Ss) (states_words Rs)))

node_words : (r : Rule) (n : ℕ) (j : Judgement) (C : Ty) (Δ : Ctx) → state_words (of_node r n j C Δ) ≡ rule_number r ∷ n ∷ judgement_words j C Δ
unfolding state_words of_node judgement_words ty_section ctx_section no_section section
node_words r n (infer Γ e) C Δ = refl
node_words r n (check Γ e B) C Δ = refl
node_words r n (infer_app Γ e A) C Δ = refl
node_words r n (subtype Γ A B) C Δ = refl
node_words r n (inst on_l Γ a T) C Δ = refl
node_words r n (inst on_r Γ a T) C Δ = refl

mutual
  unfolding tree_words of_tree states_words

  tree_words_lem : (t : Tree) → states_words (of_tree t) ≡ tree_words t
  tree_words_lem (node r j C Δ ts) = rw (node_words r (children ts) j C Δ, trees_words_lem ts)

  trees_words_lem : (ts : Trees) → states_words (of_trees ts) ≡ trees_words ts
  trees_words_lem leaf = refl
  trees_words_lem (t & ts) = rw (states_append (of_tree t) (of_trees ts), tree_words_lem t, trees_words_lem ts)

-- a walk through a tree's words meets its nodes, parent first, and each states what the definition writes of it
pub tree_met : (t : Tree) → stated_in (tree_words t) ≡ of_tree t
tree_met t = rw (← tree_words_lem t) (states_met (of_tree t))
