-- Results and type errors that are alike are written as reports that are alike, and so are the replies.
use mathlib.Core.Path.{◌≡◌, refl, ap}
use Prim.Native.Nat.{ℕ, suc, ◌-◌, ◌≤◌, min}
use native.Mathlib.Omega.{arith}
use mathlib.Core.Bool.{Bool, true, false, ◌&&◌}
use mathlib.Core.List.{List, [], ◌∷◌, ◌++◌, append_assoc}
use lib.ListN.{length}
use lib.Dec.{leb, eqb}
use Rattle.definition.specs.Syntax
use Rattle.definition.specs.Syntax.{pick, Ty, Binding, Ctx, on_l, on_r, Judgement, Tree, Trees, Shown, TypeError, ty_words, binding_words, entry_words, ctx_words, no_section, sections, ctx_section, ty_section, judgement_words, children, tree_words, trees_words}
use Rattle.definition.specs.Question.{Read, Question}
use Rattle.definition.specs.Run.{Out}
use Rattle.definition.specs.Rules.{Result, outside, judge}
use Rattle.definition.specs.Reply.{refusal, most, reported, error_code, error_at, error_words, gives_type, result_words, answer, out_reply, read_reply}
use Rattle.alike.specs.Alike.{Pairing, Label, the, IsTy, IsEntry, IsCtx, IsTyOrNone, no_ty, a_ty, IsNodes, IsReport, InReplies, Alike, at_label, AlikeReplies}
use Rattle.alike.proofs.Related
use Rattle.alike.proofs.Related.{TyR, BindingR, CtxR, JudgementR, TreeR, TreesR, ShownR, TypeErrorR, pick_r}
use Rattle.laws.proofs.Codes.{error}
use Rattle.alike.proofs.Runs.{OutR, done_r, fail_r, stop_r, RunsAlike, bind_r, give_r}
use Rattle.alike.proofs.Types.{apply_r}
use Rattle.alike.proofs.Rules.{expr_parts, ResultR, judge_r}
use Rattle.alike.proofs.Words.{same_length, done, under, item, join, sect, last_sect}
use Rattle.alike.proofs.Readers.{GotR, got_r}
use Rattle.alike.proofs.Reading.{QuestionR}

-- words of two reports
abbrev ReportsAlike : Pairing → (List Label → Type 0) → List ℕ → List ℕ → Type 0
ReportsAlike P = Alike (InReplies P)

same : (P : Pairing) (n : ℕ) → InReplies P (the n) n n
same P n = InReplies.same

code : {P : Pairing} {Is : List Label → Type 0} {n : ℕ} {u u' : List ℕ} → ReportsAlike P (λ s. Is (the n ∷ s)) u u' → ReportsAlike P Is (n ∷ u) (n ∷ u')
code a = under _ InReplies.same a

join_nodes : {s t : List Label} → IsNodes s → IsNodes t → IsNodes (s ++ t)
join_nodes IsNodes.no_node q = q
join_nodes (IsNodes.node i A B o C v) q = simp append_assoc (IsNodes.node i A B o C (join_nodes v q))

module _ {P : Pairing} where
  -- ## Types and contexts

  ty_w : {A A' : Ty} → TyR P A A' → ReportsAlike P IsTy (ty_words A) (ty_words A')
  unfolding ty_words
  ty_w Related.int_r = code (done IsTy.int)
  ty_w Related.bool_r = code (done IsTy.bool)
  ty_w (Related.var_r a) = code (under _ (InReplies.type_names a.numbers) (done IsTy.var))
  ty_w (Related.etvar_r a) = code (under _ (InReplies.type_names a.numbers) (done IsTy.etvar))
  ty_w (Related.arrow_r s t) =
      let a = ty_w s in
      code (join a (item (λ v. IsTy.arrow a.format) (ty_w t)))
  ty_w (Related.forall_r a t) = code (under _ (InReplies.type_names a.numbers) (item (λ v. IsTy.forall) (ty_w t)))

  binding_w : {b b' : Binding} → BindingR P b b' → ReportsAlike P IsEntry (binding_words b) (binding_words b')
  unfolding binding_words
  binding_w (Related.var_bnd_r x t) = code (under _ (InReplies.variables x.numbers) (item (λ v. IsEntry.var_bnd) (ty_w t)))
  binding_w (Related.tvar_bnd_r a) = code (under _ (InReplies.type_names a.numbers) (done IsEntry.tvar_bnd))
  binding_w (Related.etvar_bnd_r a) = code (under _ (InReplies.type_names a.numbers) (done IsEntry.etvar_bnd))
  binding_w (Related.setvar_bnd_r a t) = code (under _ (InReplies.type_names a.numbers) (item (λ v. IsEntry.setvar_bnd) (ty_w t)))
  binding_w (Related.mark_r a) = code (under _ (InReplies.type_names a.numbers) (done IsEntry.mark))

  ctx_w : {Γ Γ' : Ctx} → CtxR P Γ Γ' → ReportsAlike P IsCtx (ctx_words Γ) (ctx_words Γ')
  unfolding ctx_words entry_words
  ctx_w Related.nil_r = done IsCtx.no_entry
  ctx_w (Related.cons_r e c) = let a = binding_w e.bindings in join a (item (λ v. IsCtx.entry a.format) (ctx_w c))

  -- ## Trees

  children_r : {ts ts' : Trees} → TreesR P ts ts' → children ts ≡ children ts'
  unfolding children
  children_r Related.leaf_r = refl
  children_r (Related.and_r t ts) = ap suc (children_r ts)

  -- a node's three numbers and five sections, before other nodes
  five_w : (r n p : ℕ) {i i' A A' B B' o o' C C' v v' : List ℕ} → ReportsAlike P IsCtx i i' → ReportsAlike P IsTyOrNone A A'
      → ReportsAlike P IsTyOrNone B B' → ReportsAlike P IsCtx o o' → ReportsAlike P IsTyOrNone C C' → ReportsAlike P IsNodes v v'
      → ReportsAlike P IsNodes
      (r ∷ n ∷ p ∷ sections (Syntax.section i) (Syntax.section A) (Syntax.section B) (Syntax.section o) (Syntax.section C) ++ v)
      (r ∷ n ∷ p ∷ sections (Syntax.section i') (Syntax.section A') (Syntax.section B') (Syntax.section o') (Syntax.section C') ++ v')
  unfolding sections
  five_w r n p i A B o C v =
      simp append_assoc
      (code (code (code
      (sect (same P) i (sect (same P) A (sect (same P) B (sect (same P) o (sect (same P) C
      (item (λ s. IsNodes.node i.format A.format B.format o.format C.format) v)))))))))

  ty_or_none_w : {A A' : Ty} → TyR P A A' → ReportsAlike P IsTyOrNone (ty_words A) (ty_words A')
  ty_or_none_w t = item (λ s. a_ty) (ty_w t)

  none_w : ReportsAlike P IsTyOrNone [] []
  none_w = done no_ty

  node_w : (r n : ℕ) {j j' : Judgement} {C C' : Ty} {Δ Δ' : Ctx} {v v' : List ℕ} → JudgementR P j j' → TyR P C C' → CtxR P Δ Δ'
      → ReportsAlike P IsNodes v v' → ReportsAlike P IsNodes (r ∷ n ∷ judgement_words j C Δ ++ v) (r ∷ n ∷ judgement_words j' C' Δ' ++ v')
  unfolding judgement_words ctx_section ty_section no_section Syntax.section
  node_w r n (Related.infer_r c e) t d v = rw (expr_parts e).place (five_w r n _ (ctx_w c) none_w none_w (ctx_w d) (ty_or_none_w t) v)
  node_w r n (Related.check_r c e b) t d v = rw (expr_parts e).place (five_w r n _ (ctx_w c) none_w (ty_or_none_w b) (ctx_w d) none_w v)
  node_w r n (Related.infer_app_r c e a) t d v = rw (expr_parts e).place (five_w r n _ (ctx_w c) (ty_or_none_w a) none_w (ctx_w d) (ty_or_none_w t) v)
  node_w r n (Related.subtype_r c a b) t d v = five_w r n 0 (ctx_w c) (ty_or_none_w a) (ty_or_none_w b) (ctx_w d) none_w v
  node_w r n (Related.inst_r {s = on_l} c a b) t d v = five_w r n 0 (ctx_w c) (ty_or_none_w (Related.etvar_r a)) (ty_or_none_w b) (ctx_w d) none_w v
  node_w r n (Related.inst_r {s = on_r} c a b) t d v = five_w r n 0 (ctx_w c) (ty_or_none_w b) (ty_or_none_w (Related.etvar_r a)) (ctx_w d) none_w v

  mutual
    unfolding tree_words

    tree_w : {t t' : Tree} → TreeR P t t' → ReportsAlike P IsNodes (tree_words t) (tree_words t')
    tree_w (Related.node_r j c d ts) = rw (children_r ts) (node_w _ _ j c d (trees_w ts))

    trees_w : {ts ts' : Trees} → TreesR P ts ts' → ReportsAlike P IsNodes (trees_words ts) (trees_words ts')
    trees_w Related.leaf_r = done IsNodes.no_node
    trees_w (Related.and_r t ts) = let a = tree_w t in join a (item (λ s. join_nodes a.format) (trees_w ts))

  -- ## Replies

  reported_r : (room c units : ℕ) {p p' : ℕ} {u u' : List ℕ} → InReplies P (at_label c p) p p' → ReportsAlike P (IsReport c) u u'
      → AlikeReplies P (reported room c p units u) (reported room c p' units u')
  unfolding reported pick
  reported_r room c units {u = u} {u' = u'} a w =
      let e : length u ≡ length u' = same_length w.words in
      pick_r (AlikeReplies P) (ap (λ n. leb n room && leb n most) e)
      (record { code = refl; at = a; len = e; units = refl; report = w })
      (record { code = refl; at = InReplies.same; len = ap (λ n. min n most) e; units = refl; report = done (IsReport.empty (omega arith) (omega arith)) })

  pub refusal_r : (c u : ℕ) → 1 ≤ c → c ≤ 7 → InReplies P (at_label c 0) 0 0 → AlikeReplies P (refusal c 0 u) (refusal c 0 u)
  unfolding refusal
  refusal_r c u h k a = record { code = refl; at = a; len = refl; units = refl; report = done (IsReport.empty h k) }

  error_w : {c : ℕ} {A A' B B' : List ℕ} → 11 ≤ c → ReportsAlike P IsTyOrNone A A' → ReportsAlike P IsTyOrNone B B'
      → ReportsAlike P (IsReport c) (Syntax.section A ++ Syntax.section B) (Syntax.section A' ++ Syntax.section B')
  error_w h a b = sect (same P) a (last_sect (same P) b (IsReport.error h a.format b.format))

  shown_w : {c : ℕ} → 11 ≤ c → {x x' : Shown} → ShownR P x x' → ReportsAlike P (IsReport c) (error_words x) (error_words x')
  unfolding error_words ty_section no_section Syntax.section
  shown_w h Related.no_type_r = error_w h none_w none_w
  shown_w h (Related.one_type_r t) = error_w h (ty_or_none_w t) none_w
  shown_w h (Related.two_types_r s t) = error_w h (ty_or_none_w s) (ty_or_none_w t)

  error_r : (room units : ℕ) {e e' : TypeError} → TypeErrorR P e e'
      → AlikeReplies P
      (reported room (error_code e.error) (error_at e.about) units (error_words e.shown))
      (reported room (error_code e'.error) (error_at e'.about) units (error_words e'.shown))
  error_r room u {e} x = rw (← x.error) (reported_r room (error_code e.error) u x.about (shown_w (error e.error).least x.shown))

  result_w : (k : ℕ) (r r' : Result) → ResultR P r r' → ReportsAlike P (IsReport 0) (result_words k r) (result_words k r')
  unfolding result_words ctx_section ty_section no_section Syntax.section pick
  result_w k r r' w = typed (gives_type k)
    where
      whole : {A A' : List ℕ} → ReportsAlike P IsTyOrNone A A'
          → ReportsAlike P (IsReport 0)
          (Syntax.section A ++ (Syntax.section (ctx_words r.1) ++ Syntax.section (tree_words r.2)))
          (Syntax.section A' ++ (Syntax.section (ctx_words r'.1) ++ Syntax.section (tree_words r'.2)))
      whole a =
          let c = ctx_w w.1 in
          let t = tree_w w.2 in
          sect (same P) a (sect (same P) c (last_sect (same P) t (IsReport.result a.format c.format t.format)))

      typed : (b : Bool)
          → ReportsAlike P (IsReport 0)
          (pick b (ty_section r.0) no_section ++ (ctx_section r.1 ++ Syntax.section (tree_words r.2)))
          (pick b (ty_section r'.0) no_section ++ (ctx_section r'.1 ++ Syntax.section (tree_words r'.2)))
      typed true = whole (ty_or_none_w w.0)
      typed false = whole none_w

  out_reply_r : {k k' : ℕ} (budget room : ℕ) {o o' : Out Result} → k ≡ k' → OutR P (ResultR P) o o'
      → AlikeReplies P (out_reply k budget room o) (out_reply k' budget room o')
  unfolding out_reply pick
  out_reply_r {k' = k'} budget room e (done_r {l = l} w) = rw e (reported_r room 0 (budget - l) InReplies.same (result_w k' _ _ w))
  out_reply_r budget room e (fail_r {l = l} x) = error_r room (budget - l) x
  out_reply_r budget room e stop_r = refusal_r 6 budget (omega arith) (omega arith) InReplies.same

  answer_r : {q q' : Question} → QuestionR P q q' → RunsAlike P (ResultR P) (answer q) (answer q')
  unfolding answer
  answer_r {q} {q'} h =
      let asked : RunsAlike P (ResultR P) (judge (outside q.manner) q.asks) (judge (outside q'.manner) q'.asks) =
      rw h.manners (judge_r (outside q'.manner) h.judgements) in
      pick_r (RunsAlike P (ResultR P)) (ap (λ k. eqb k 7) h.kinds)
      (bind_r asked (λ r r' w. bind_r (apply_r w.1 w.0) (λ A A' t. give_r _ _ (t, w.1, w.2))))
      asked

  pub read_reply_r : (budget room : ℕ) {o o' : Read Question} → GotR (QuestionR P) [] [] o o'
      → AlikeReplies P (read_reply budget room o) (read_reply budget room o')
  unfolding read_reply
  read_reply_r budget room (got_r h) = out_reply_r budget room h.kinds ((answer_r h).at budget 0)
