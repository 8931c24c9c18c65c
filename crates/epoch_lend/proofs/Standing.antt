-- What follows from where a post stands in its set.
use Rattle.std.proofs.Common.{◌≡◌, ℕ, zero, suc, List, [], ◌∷◌, ◌++◌, map, get_or, sym, refl, ap, ◌∙◌}
use Rattle.std.specs.Prelude.{Some, eqb}
use Rattle.std.specs.List.{slice_get}
use Rattle.std.proofs.lemmas.Option.{get_or_from_slice_get, none-some, same_Some}
use Rattle.std.proofs.lemmas.Bool.{or_left, or_right, eq-eqb}
use Rattle.epoch_lend.specs.Posts.{PostNames, logs_of, is_among, IsAmong}
use Rattle.epoch_lend.specs.declared.post.Unpinned.{Unpinned}
use Rattle.epoch_lend.specs.Sets.{StandsAt, names_of}

-- what an index reads at the position of a post is that post
pub stands_read : (ds : List PostNames) (i log state : ℕ) (d : PostNames)
    → StandsAt ds i log state → d ≡ get_or ds i d → slice_get ds i ≡ Some d
stands_read ds i log state d stands read =
    let named : PostNames = record { log = log; state = state } in
    let same : d ≡ named = read ∙ get_or_from_slice_get ds i named d stands in
    stands ∙ ap (λ (p : PostNames). Some p) (sym same)

-- the log of a post in the set is among the logs of the set
pub stands_among : (ds : List PostNames) (i : ℕ) (d : PostNames) → slice_get ds i ≡ Some d → IsAmong d.log (logs_of ds)
stands_among [] i d at = absurd (none-some d at)
stands_among (x ∷ xs) zero d at = or_left (eqb d.log x.log) (is_among d.log (logs_of xs))
    (eq-eqb d.log x.log (ap (λ (p : PostNames). p.log) (sym (same_Some x d at))))
stands_among (x ∷ xs) (suc i) d at = or_right (eqb d.log x.log) (is_among d.log (logs_of xs)) (stands_among xs i d at)

-- without it they are the first rights again
one_less : (now : List Unpinned) (u : Unpinned) (rest : List PostNames)
    → map names_of now ++ names_of u ∷ rest ≡ map names_of (now ++ u ∷ []) ++ rest
one_less [] u rest = refl
one_less (x ∷ xs) u rest = ap (λ ds. names_of x ∷ ds) (one_less xs u rest)

-- a post more, and the right to pin at it
pub one_more : (us : List Unpinned) (ds : List PostNames) (u : Unpinned) (d : PostNames)
    → map names_of us ≡ ds → u.log ≡ d.log → u.state ≡ d.state → map names_of (us ++ u ∷ []) ≡ ds ++ d ∷ []
one_more us ds u d made log state = snoc us ∙ ap (λ xs. xs ++ names_of u ∷ []) made ∙ ap (λ x. ds ++ x ∷ []) same
  where
    snoc : (vs : List Unpinned) → map names_of (vs ++ u ∷ []) ≡ map names_of vs ++ names_of u ∷ []
    snoc [] = refl
    snoc (v ∷ vs) = ap (λ xs. names_of v ∷ xs) (snoc vs)

    same : names_of u ≡ d
    same = ap (λ (n : ℕ). record { log = n; state = u.state }) log ∙ ap (λ (n : ℕ). record { log = d.log; state = n })
        state
