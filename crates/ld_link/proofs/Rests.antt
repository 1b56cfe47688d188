-- The next peer comes: what holds of the peers that are left, and of those that have come.
use Rattle.std.proofs.Common.{◌≡◌, ◌≤◌, ◌+◌, ◌++◌, ◌∷◌, List, ℕ, suc, length, map, Option, Some, subst, ap, ◌∙◌, arith}
use Rattle.std.proofs.lemmas.List.{length-append}
use Rattle.std.specs.List.{All}
use Rattle.std.specs.Option.{option_map}
use Rattle.ld_link.specs.Memory.{Caller, Line}
use Rattle.ld_link.specs.Peers.{Talk, Peers, Comes, as_list, fresh}

-- what holds of each element holds of the first and of the rest
pub all_split : {A : Type 0} (P : A → Type 0) (xs ys : List A) (x : A) → xs ≡ x ∷ ys → All P xs → P x × All P ys
all_split P xs ys x is all =
    let split = subst (λ zs. All P zs) is all in
    (split 0 x (omega arith), λ k d within. split (suc k) d (omega arith))

-- there is room for the present peer among those that are past, and for those that are left
pub fits_behind : {A B : Type 0} (past behind : List A) (present taken : Option A) (coming more : List B) (first : B) (before now : ℕ)
    → length past + length (as_list present) + length coming ≤ before → before ≤ now
    → taken ≡ present → behind ≡ past ++ as_list taken → coming ≡ first ∷ more
    → length behind + 1 + length more ≤ now
fits_behind past behind present taken coming more first before now fits grows same behind_is coming_is =
    omega (arith, ap (λ t. length (as_list t)) same, ap length behind_is, length-append past (as_list taken), ap length coming_is)

abbrev peers : List Talk → Option Talk → List (List ℕ) → Peers
peers past present coming = record { past = past; present = present; coming = coming }

-- `old` is the link's peers before, whose parts are known
pub comes_next : (past behind : List Line) (present taken : Option Line) (coming more : List Caller) (first : Caller) (begun : Line) (old : Peers)
    → coming ≡ first ∷ more → taken ≡ present
    → map (λ l. l.talk) behind ≡ map (λ l. l.talk) past ++ as_list (option_map (λ l. l.talk) taken)
    → begun.talk ≡ fresh first.bytes
    → peers (map (λ l. l.talk) past) (option_map (λ l. l.talk) present) (map (λ c. c.bytes) coming) ≡ old
    → Comes old (Some (peers (map (λ l. l.talk) behind) (Some begun.talk) (map (λ c. c.bytes) more)))
comes_next past behind present taken coming more first begun old coming_is same behind_is begun_is old_is =
    subst (λ o. Comes o (Some (peers (map (λ l. l.talk) behind) (Some begun.talk) (map (λ c. c.bytes) more)))) old_is record {
      bytes = first.bytes;
      more = map (λ c. c.bytes) more;
      first = ap (map (λ c. c.bytes)) coming_is;
      peers = ap (λ b. Some (peers b (Some begun.talk) (map (λ c. c.bytes) more))) (behind_is ∙ ap (λ t. map (λ l. l.talk) past ++ as_list (option_map (λ l. l.talk) t)) same)
          ∙ ap (λ t. Some (peers (map (λ l. l.talk) past ++ as_list (option_map (λ l. l.talk) present)) (Some t) (map (λ c. c.bytes) more))) begun_is;
    }
