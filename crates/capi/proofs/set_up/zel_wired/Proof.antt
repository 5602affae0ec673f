-- The tree is lent to the call, and lies there again as the call leaves it. At null nothing is called.
use Rattle.capi.proofs.Steps.{ℕ, [], ◌∷◌, ◌++◌, refl, lit<, w64, proved, full_share, id⊢, via, guard_i, Fits, ftrue, flft, flent, named, vint, vptr, fact, tables, WpFn, owns, GName, lends_ref, ref_back, mem, MutRef, Body, use3, fpack, ‵, raw, ◌⊛◌, some, later, at_ret, ◌$◌, ◌∵◌, !, qed, done, move, keep, use1, use2, split, join, fsplit, pick, await, suffices, group, feq_i, lft_new, lft_end, enter, of_opd, lit, bin, first, branches, skips, exec, returns_within, addr, stop, no_more, and_then, returns, alloc_all, pass_all, free_all, look_at, get, through, sets, lands_as, env, u8, u64, yes, Is, shows, part_at, uint_Makes, uint_Lawful, SliceRefOf, ShrSlice, shr_slice_vals, shr_slice_Tells, Ptr, RawPtr, block_ptr, null_ptr, Testable, tests_null, rawptr_vals, rawptr_Tells, plain, nothing, owned, heard, peeks, calls_at, lasts, on_entry, triple_of, Stays, walk_of, stay_dropped, Goes-dropped, ends_at, framed, ent, sep, sem, at_each}
use Rattle.host.specs.declared.tree.HostTree.{HostTree}
use Rattle.host.specs.contracts.tree.HostTree.{the_row as R}
use Rattle.host.specs.contracts.lines.RuleLine.{the_row as Line}
use Rattle.host.specs.SetUps.{WiredSetUp}
use Rattle.capi.specs.Memory.{tree_at, given_tree, no_tree}
use Rattle.capi.specs.contracts.set_up.zel_wired as f
use Rattle.capi.proofs.set_up.zel_wired.Statement.{statement}
use Rattle.capi.proofs.set_up.zel_wired.Code as code
use Rattle.host.specs.contracts.tree.HostTree.set_wired as g
use Rattle.host.proofs.tree.HostTree.set_wired.Met.{met}

abbrev stayed : Stays f.ended.signature.params f.ended.kept
stayed = (stay_dropped _ yes, (stay_dropped _ yes, (stay_dropped _ yes, tt)))

pub zel_wired_spec : {M : Type 1} → statement M
zel_wired_spec 𝓤 𝓛 𝓜 𝓡 wired =
    let c = f.clauses 𝓛 𝓜.mem 𝓡.returns in let W = walk_of 𝓛 f.ended stayed c in let 𝓣 = tables 𝓤 𝓛.H 𝓜 𝓡 𝓡.env in
    proved 𝓛 f.ended stayed c 𝓜 𝓡 (Goes-dropped 𝓛 2 (plain (λ _. RawPtr)) yes (λ κs x w. refl), (Goes-dropped 𝓛 2 (SliceRefOf (0 ∷ []) tt (plain (λ _. u8)) (λ κs. tt)) yes (λ κs x w. refl), (Goes-dropped 𝓛 2 (SliceRefOf (1 ∷ []) tt (plain (λ _. Line)) (λ κs. tt)) yes (λ κs x w. refl), tt)))
    f.Key.name code.function (code.unfolded 𝓤 𝓛.H 𝓜 𝓡 wired)
    (λ κs. (rawptr_vals, (shr_slice_vals, (shr_slice_vals, tt)))) (λ κs. (rawptr_Tells, (shr_slice_Tells (named 0) κs.0 u8, (shr_slice_Tells (named 1) κs.1.0 Line, tt)))) (λ κs qs bounds a before are.
    let x1 = a.1.0 in let x2 = a.1.1.0 in
    let y : Ptr → W.Ghost = λ p. ((κs, qs, bounds, (p, (x1, (x2, tt))), (rawptr_vals p, (shr_slice_vals x1, (shr_slice_vals x2, tt)))), before) in
    at_each (λ p. ent 𝓤 (sep 𝓤 (on_entry 𝓛 f.signature κs qs (p, (x1, (x2, tt))) (y p).0.4) (sep 𝓤 (fact 𝓤 (Testable p)) (sem 𝓛 (given_tree p before))))
    (WpFn 𝓤 𝓛.H 𝓣.C 𝓣.Λ code.function (rawptr_vals p ++ (shr_slice_vals x1 ++ (shr_slice_vals x2 ++ []))) (W.post (y p)))) a.0
    (qed 𝓛 (((‵ (flft κs.0 qs.0) ⊛ ‵ (flft κs.1.0 qs.1.0) ⊛ ‵ ftrue) ⊛ ‵ (owns (RawPtr ∷ ShrSlice (named 0) κs.0 u8 ∷ ShrSlice (named 1) κs.1.0 Line ∷ []) (null_ptr, (x1, (x2, tt))) (y null_ptr).0.4)) ∷ (raw (fact 𝓤 (Testable null_ptr)) ⊛ ‵ ftrue) ∷ []) ∵
    split ! $ move ! (2 ∷ []) $ split ! $ heard ! _ (λ may. keep ! (1 ∷ []) $
    enter ! _ _ _ _ _ $ alloc_all ! (λ l. pass_all ! refl ((tt, record { fits = lit< tt }), ((tt, (tt, (record { fits = are.1.0.0.1.0 }, tt))), ((tt, (tt, (record { fits = are.1.1.0.0.1.0 }, tt))), tt))) $
    sets ! (bin ! (get ! refl) (lit ! tt) (tests_null null_ptr may)) refl (tt, tt) $ first ! $ branches ! (get ! refl)
    (λ _. sets ! (of_opd ! (record { go = λ Kt h. via 𝓤 (Kt (vint w64 no_tree)) h (guard_i 𝓤 (Fits w64 no_tree) (Kt (vint w64 no_tree)) (record { fits = lit< tt })) })) refl (tt, record { fits = lit< tt }) $
    returns_within ! (W.post (y null_ptr)) refl (look_at ! 0 refl) $ free_all ! refl $
    suffices ! _ (ends_at 𝓛 f.ended stayed c (y null_ptr) (vint w64 no_tree) no_tree (tt, (tt, (tt, tt))) (tt, (tt, (tt, tt)))) $
    feq_i ! ℕ no_tree no_tree refl $ owned ! u64 _ (uint_Makes 𝓛 w64) no_tree _ (refl, lit< tt) $
    nothing ! $ nothing ! $ join ! $ nothing ! $ join ! $ nothing ! $ join ! $ move ! (3 ∷ 0 ∷ []) $ group ! 3 $ done !)
    (λ never. absurd never))))
    (λ b o.
    qed 𝓛 (((‵ (flft κs.0 qs.0) ⊛ ‵ (flft κs.1.0 qs.1.0) ⊛ ‵ ftrue) ⊛ ‵ (owns (RawPtr ∷ ShrSlice (named 0) κs.0 u8 ∷ ShrSlice (named 1) κs.1.0 Line ∷ []) ((block_ptr b o), (x1, (x2, tt))) (y (block_ptr b o)).0.4)) ∷ (raw (fact 𝓤 (Testable (block_ptr b o))) ⊛ ‵ (tree_at (block_ptr b o) before)) ∷ []) ∵
    split ! $ move ! (2 ∷ []) $ split ! $ heard ! _ (λ may. move ! (2 ∷ []) $ fsplit ! $ move ! (1 ∷ []) $ fsplit ! $ move ! (1 ∷ []) $ fsplit ! $ keep ! (4 ∷ 0 ∷ 2 ∷ 5 ∷ []) $
    -- [the tree; the arguments, the last one first; the tokens]
    enter ! _ _ _ _ _ $ alloc_all ! (λ l. pass_all ! refl ((tt, tt), ((tt, (tt, (record { fits = are.1.0.0.1.0 }, tt))), ((tt, (tt, (record { fits = are.1.1.0.0.1.0 }, tt))), tt))) $
    sets ! (bin ! (get ! refl) (lit ! tt) (tests_null (block_ptr b o) may)) refl (tt, tt) $ first ! $ branches ! (get ! refl) (λ never. absurd never)
    (λ _. skips ! $ exec ! 𝓣.C 𝓣.Λ (env code.Mir.locals l) code.Mir.t-3 (at_ret _ (W.post (y (block_ptr b o)))) $
    sets ! (of_opd ! (get ! refl)) refl (tt, tt) $ sets ! (addr ! (through ! refl (stop !))) refl (tt, tt) $
    lft_new ! tt (λ α. let κ = α ∷ [] in move ! (1 ∷ []) $
    use1 𝓛 (later (some (λ (δ : GName). ‵ ((MutRef (named 0) κ R).own_val (record { ref_ptr = (b, o); ghost_name = δ; now = before }) (vptr b o ∷ [])) ⊛ ‵ (flent κ (Body (mem R) b o δ))))) (lends_ref 𝓛 R (named 0) κ before b o) $
    await ! tt $ pick ! (λ δ. split ! $
    -- [the loan; the lender's part; the token; the arguments; the tokens; the locals]
    let G = triple_of 𝓛 g.signature (g.spec 𝓛 𝓜.mem 𝓡.returns) in
    let z : G.Ghost = (((κ, (κs.0, (κs.1.0, tt))), (full_share, (qs.0, (qs.1.0, tt))), tt, (record { ref_ptr = (b, o); ghost_name = δ; now = before }, (x1, (x2, tt))), (vptr b o ∷ [], (shr_slice_vals x1, (shr_slice_vals x2, tt)))), tt) in
    nothing ! $ move ! (4 ∷ 0 ∷ []) $ join ! $ move ! (4 ∷ 0 ∷ []) $ join ! $ move ! (1 ∷ 0 ∷ []) $ join ! $ move ! (2 ∷ 3 ∷ []) $ join ! $ join ! $
    nothing ! $ move ! (1 ∷ 0 ∷ []) $ use2 𝓛 (raw (G.pre z)) (id⊢ 𝓤 _) $
    calls_at ! (framed 𝓤 𝓛.H 𝓜 (tables 𝓤 𝓛.H 𝓜 𝓡 𝓡.env)) G (met 𝓤 𝓛 𝓜 𝓡 (code.calls-host::tree::HostTree::set_wired 𝓡.env wired)) z
    (and_then ! (get ! refl) (and_then ! (get ! refl) (and_then ! (get ! refl) (no_more !)))) (λ v.
    use1 𝓛 (later (some (λ (u : ℕ). ((‵ (flft κ full_share) ⊛ (‵ (flft κs.0 qs.0) ⊛ ‵ (flft κs.1.0 qs.1.0) ⊛ ‵ ftrue)) ⊛ ‵ (u64.own_val u (v ∷ []))) ⊛
    some (λ (ws : HostTree × (Unit {0} × (Unit {0} × Unit {0}))). ‵ (lasts g.ended z.0.0 z.0.3 ws) ⊛ raw (fact 𝓤 (WiredSetUp x1.now x2.now before u ws.0)))))) (id⊢ 𝓤 _) $
    await ! tt $ pick ! (λ u. split ! $ split ! $ split ! $ lft_end ! tt $
    move ! (2 ∷ []) $ peeks ! u64 (Is u64) (shows 𝓛 u64) u (v ∷ []) (λ is. lands_as ! refl refl ((uint_Lawful 𝓛 w64).typed u _ is).0 $
    move ! (3 ∷ []) $ pick ! (λ ws. split ! $ move ! (1 ∷ []) $ heard ! _ (λ holds. fsplit ! $ fsplit ! $
    -- [the loan's last value; its borrow; nothing; the result; the lifetime is over; the tokens; the lender's part; the locals]
    move ! (4 ∷ 6 ∷ 0 ∷ []) $ use3 𝓛 (later (‵ (part_at R full_share ws.0 b o))) (ref_back 𝓛 R κ δ ws.0 b o) $ await ! tt $
    fpack ! ((tree : HostTree) × WiredSetUp x1.now x2.now before u tree) (λ found. tree_at (block_ptr b o) found.0) (ws.0, holds) $
    returns ! (look_at ! 0 refl) $ free_all ! refl $ keep ! (3 ∷ 0 ∷ 4 ∷ []) $
    suffices ! _ (ends_at 𝓛 f.ended stayed c (y (block_ptr b o)) v u (tt, (tt, (tt, tt))) (tt, (tt, (tt, tt)))) $
    nothing ! $ nothing ! $ join ! $ nothing ! $ join ! $ nothing ! $ join ! $ move ! (3 ∷ 0 ∷ []) $ group ! 3 $ done !))))))))))))
