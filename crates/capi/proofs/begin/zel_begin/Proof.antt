-- Where the bytes are too few nothing is written; else the tree is written into the room.
use Rattle.capi.proofs.Steps.{◌≡◌, Bool, true, false, nat_lt, cond, subst, lit<, ℕ, [], ◌∷◌, ◌++◌, refl, sym, w64, proved, full_share, id⊢, via, guard_i, Fits, ftrue, feq, vint, fact, tables, WpFn, ent, sep, sem, at_each, ‵, raw, ◌⊛◌, some, later, at_ret, ◌$◌, ◌∵◌, !, qed, done, move, drop, use1, use2, split, join, feq_i, fpack, pick, await, rewrite, suffices, group, enter, init, assigns, first, branches, skips, exec, returns_within, of_opd, lit, bin, stop, no_more, returns, alloc_all, pass_all, free_all, look_at, get, through, sets, lands_as, env, u64, usize, yes, Is, shows, part_in, part_at, uint_Makes, uint_vals, uint_Tells, Ptr, RawPtr, block_ptr, null_ptr, Testable, tests_null, rawptr_vals, rawptr_Tells, rawptr_Lawful, plain, nothing, owned, heard, peeks, calls_at, lasts, on_entry, triple_of, Stays, walk_of, stay_dropped, Goes-dropped, ends_at, framed}
use lib.Dec.{T}
use mathlib.Core.Bool.{not}
use Rattle.std.specs.Ptr.{room_at}
use Rattle.host.specs.declared.tree.HostTree.{HostTree}
use Rattle.host.specs.contracts.tree.HostTree.{the_row as R}
use Rattle.host.proofs.tree.HostTree.TheLaws.{the_row_laws}
use Rattle.host.specs.SetUps.{Single}
use Rattle.capi.specs.Memory.{tree_at, tree_bytes, room_for_tree, answered, no_room, no_tree}
use Rattle.capi.specs.contracts.begin.zel_begin as f
use Rattle.capi.proofs.begin.zel_begin.Statement.{statement}
use Rattle.capi.proofs.begin.zel_begin.Code as code
use Rattle.host.specs.contracts.tree.HostTree.single as g
use Rattle.host.proofs.tree.HostTree.single.Met.{met}

abbrev stayed : Stays f.ended.signature.params f.ended.kept
stayed = (stay_dropped _ yes, (stay_dropped _ yes, tt))

abbrev begins : ℕ → HostTree → Type 0
begins answer tree = (answer ≡ 0) × Single tree

either : {P : Type 1} (b : Bool) → (b ≡ true → P) → (b ≡ false → P) → P
either true f g = f refl
either false f g = g refl

pub zel_begin_spec : {M : Type 1} → statement M
zel_begin_spec 𝓤 𝓛 𝓜 𝓡 wired =
    let c = f.clauses 𝓛 𝓜.mem 𝓡.returns in let W = walk_of 𝓛 f.ended stayed c in let 𝓣 = tables 𝓤 𝓛.H 𝓜 𝓡 𝓡.env in
    proved 𝓛 f.ended stayed c 𝓜 𝓡 (Goes-dropped 𝓛 0 (plain (λ _. RawPtr)) yes (λ κs x w. refl), (Goes-dropped 𝓛 0 (plain (λ _. usize)) yes (λ κs x w. refl), tt))
    f.Key.name code.function (code.unfolded 𝓤 𝓛.H 𝓜 𝓡 wired)
    (λ κs. (rawptr_vals, (uint_vals w64, tt))) (λ κs. (rawptr_Tells, (uint_Tells w64, tt))) (λ κs qs bounds a ghosts are.
    let n = a.1.0 in let fits = are.1.0.1 in
    let y : Ptr → W.Ghost = λ p. ((κs, qs, bounds, (p, (n, tt)), (rawptr_vals p, (uint_vals w64 n, tt))), ghosts) in
    either (nat_lt n tree_bytes)
    (λ few.
    qed 𝓛 (raw (on_entry 𝓛 f.signature κs qs a (y a.0).0.4) ∷ (raw (fact 𝓤 (Testable a.0)) ⊛ ‵ (room_for_tree n a.0)) ∷ []) ∵ drop ! $ drop ! $
    enter ! _ _ _ _ _ $ alloc_all ! (λ l. pass_all ! refl (((rawptr_Lawful 𝓛).typed a.0 _ refl).0, ((tt, record { fits = fits }), tt)) $
    sets ! (bin ! (get ! refl) (record { go = λ Kt h. via 𝓤 (Kt (vint w64 tree_bytes)) h (guard_i 𝓤 (Fits w64 tree_bytes) (Kt (vint w64 tree_bytes)) (record { fits = lit< tt })) }) tt) refl (tt, tt) $ first ! $ branches ! (get ! refl)
    (λ _. sets ! (of_opd ! (record { go = λ Kt h. via 𝓤 (Kt (vint w64 no_room)) h (guard_i 𝓤 (Fits w64 no_room) (Kt (vint w64 no_room)) (record { fits = lit< tt })) })) refl (tt, record { fits = lit< tt }) $
    returns_within ! (W.post (y a.0)) refl (look_at ! 0 refl) $ free_all ! refl $
    suffices ! _ (ends_at 𝓛 f.ended stayed c (y a.0) (vint w64 no_room) no_room (tt, (tt, tt)) (tt, (tt, tt))) $
    feq_i ! ℕ no_room no_room refl $ rewrite ! 0 (λ (t : Bool). ‵ (cond t (feq ℕ no_room no_room) (answered a.0 no_room (begins no_room)))) (sym few) refl $
    owned ! u64 _ (uint_Makes 𝓛 w64) no_room _ (refl, lit< tt) $
    nothing ! $ nothing ! $ join ! $ nothing ! $ join ! $ nothing ! $ group ! 3 $ done !)
    (λ not_few. absurd (subst (λ (t : Bool). T (not t)) few not_few))))
    (λ enough.
    at_each (λ p. ent 𝓤 (sep 𝓤 (on_entry 𝓛 f.signature κs qs (p, (n, tt)) (y p).0.4) (sep 𝓤 (fact 𝓤 (Testable p)) (sem 𝓛 (room_for_tree n p))))
    (WpFn 𝓤 𝓛.H 𝓣.C 𝓣.Λ code.function (rawptr_vals p ++ (uint_vals w64 n ++ [])) (W.post (y p)))) a.0
    (qed 𝓛 (raw (on_entry 𝓛 f.signature κs qs (null_ptr, (n, tt)) (y null_ptr).0.4) ∷ (raw (fact 𝓤 (Testable null_ptr)) ⊛ ‵ (room_for_tree n null_ptr)) ∷ []) ∵ drop ! $ split ! $ heard ! _ (λ may. drop ! $
    enter ! _ _ _ _ _ $ alloc_all ! (λ l. pass_all ! refl ((tt, record { fits = lit< tt }), ((tt, record { fits = fits }), tt)) $
    sets ! (bin ! (get ! refl) (record { go = λ Kt h. via 𝓤 (Kt (vint w64 tree_bytes)) h (guard_i 𝓤 (Fits w64 tree_bytes) (Kt (vint w64 tree_bytes)) (record { fits = lit< tt })) }) tt) refl (tt, tt) $ first ! $ branches ! (get ! refl) (λ few. absurd (subst (λ (t : Bool). T t) enough few))
    (λ _. skips ! $ exec ! 𝓣.C 𝓣.Λ (env (code.function).locals l) code.Mir.t-3 (at_ret (env (code.function).locals l) (W.post (y null_ptr))) $
    sets ! (bin ! (get ! refl) (lit ! tt) (tests_null null_ptr may)) refl (tt, tt) $ first ! $ branches ! (get ! refl)
    (λ _. sets ! (of_opd ! (record { go = λ Kt h. via 𝓤 (Kt (vint w64 no_tree)) h (guard_i 𝓤 (Fits w64 no_tree) (Kt (vint w64 no_tree)) (record { fits = lit< tt })) })) refl (tt, record { fits = lit< tt }) $
    returns_within ! (W.post (y null_ptr)) refl (look_at ! 0 refl) $ free_all ! refl $
    suffices ! _ (ends_at 𝓛 f.ended stayed c (y null_ptr) (vint w64 no_tree) no_tree (tt, (tt, tt)) (tt, (tt, tt))) $
    feq_i ! ℕ no_tree no_tree refl $ rewrite ! 0 (λ (t : Bool). ‵ (cond t (feq ℕ no_tree no_room) (answered null_ptr no_tree (begins no_tree)))) (sym enough) refl $
    owned ! u64 _ (uint_Makes 𝓛 w64) no_tree _ (refl, lit< tt) $
    nothing ! $ nothing ! $ join ! $ nothing ! $ join ! $ nothing ! $ group ! 3 $ done !)
    (λ never. absurd never)))))
    (λ b o.
    qed 𝓛 (raw (on_entry 𝓛 f.signature κs qs (block_ptr b o, (n, tt)) (y (block_ptr b o)).0.4) ∷ (raw (fact 𝓤 (Testable (block_ptr b o))) ⊛ ‵ (room_for_tree n (block_ptr b o))) ∷ []) ∵ drop ! $ split ! $ heard ! _ (λ may.
    rewrite ! 0 (λ (t : Bool). ‵ (cond t ftrue (room_at R (block_ptr b o)))) enough refl $
    enter ! _ _ _ _ _ $ alloc_all ! (λ l. pass_all ! refl ((tt, tt), ((tt, record { fits = fits }), tt)) $
    sets ! (bin ! (get ! refl) (record { go = λ Kt h. via 𝓤 (Kt (vint w64 tree_bytes)) h (guard_i 𝓤 (Fits w64 tree_bytes) (Kt (vint w64 tree_bytes)) (record { fits = lit< tt })) }) tt) refl (tt, tt) $ first ! $ branches ! (get ! refl) (λ few. absurd (subst (λ (t : Bool). T t) enough few))
    (λ _. skips ! $ exec ! 𝓣.C 𝓣.Λ (env (code.function).locals l) code.Mir.t-3 (at_ret (env (code.function).locals l) (W.post (y (block_ptr b o)))) $
    sets ! (bin ! (get ! refl) (lit ! tt) (tests_null (block_ptr b o) may)) refl (tt, tt) $ first ! $ branches ! (get ! refl) (λ never. absurd never)
    (λ _. skips ! $ exec ! 𝓣.C 𝓣.Λ (env (code.function).locals l) code.Mir.t-5 (at_ret (env (code.function).locals l) (W.post (y (block_ptr b o)))) $
    sets ! (of_opd ! (get ! refl)) refl (tt, tt) $
    -- [the room; the locals]
    let G = triple_of 𝓛 g.signature (g.spec 𝓛 𝓜.mem 𝓡.returns) in let z : G.Ghost = ((κs, qs, tt, tt, tt), tt) in
    nothing ! $ nothing ! $ join ! $ nothing ! $ move ! (1 ∷ 0 ∷ []) $ use2 𝓛 (raw (G.pre z)) (id⊢ 𝓤 _) $
    calls_at ! (framed 𝓤 𝓛.H 𝓜 (tables 𝓤 𝓛.H 𝓜 𝓡 𝓡.env)) G (met 𝓤 𝓛 𝓜 𝓡 (code.calls-host::tree::HostTree::single 𝓡.env wired)) z (no_more !) (λ v.
    use1 𝓛 (later (some (λ (t : HostTree). (‵ ftrue ⊛ ‵ (R.own_val t (v ∷ []))) ⊛ some (λ (ws : Unit {0}). ‵ (lasts g.ended κs tt ws) ⊛ raw (fact 𝓤 (Single t)))))) (id⊢ 𝓤 _) $
    await ! tt $ pick ! (λ t. split ! $ split ! $ drop ! $ peeks ! R (Is R) (shows 𝓛 R) t (v ∷ []) (λ is.
    let typed = ((the_row_laws.lawful 𝓛).typed t (v ∷ []) is).0 in
    lands_as ! refl refl typed $ move ! (1 ∷ []) $ pick ! (λ ws. split ! $ drop ! $ heard ! _ (λ single.
    -- [the tree; the room; the locals]
    assigns ! (of_opd ! (get ! refl)) (through ! refl (stop !)) (init ! 1 refl typed) $
    move ! (1 ∷ 0 ∷ []) $ use2 𝓛 (‵ (part_at R full_share t b o)) (part_in 𝓛 R refl full_share t b o v) $
    fpack ! ((tree : HostTree) × begins 0 tree) (λ found. tree_at (block_ptr b o) found.0) (t, (refl, single)) $
    rewrite ! 0 (λ (x : Bool). ‵ (cond x (feq ℕ 0 no_room) (answered (block_ptr b o) 0 (begins 0)))) (sym enough) refl $
    sets ! (of_opd ! (lit ! tt)) refl (tt, record { fits = lit< tt }) $ returns ! (look_at ! 0 refl) $ free_all ! refl $
    suffices ! _ (ends_at 𝓛 f.ended stayed c (y (block_ptr b o)) (vint w64 0) 0 (tt, (tt, tt)) (tt, (tt, tt))) $
    owned ! u64 _ (uint_Makes 𝓛 w64) 0 _ (refl, lit< tt) $
    nothing ! $ nothing ! $ join ! $ nothing ! $ join ! $ nothing ! $ group ! 3 $ done !))))))))))))
