-- Where items end: what a reader holds of a number stands at one that was given, trims are points, and an end is one of a closed epoch.
use Rattle.std.proofs.Common.{◌≡◌, ◌∙◌, ◌⊎◌, ◌≤◌, ◌<◌, ℕ, ◌+◌, max, inl, inr, refl, ap, sym, subst, Bool, true, ◌&&◌, ◌==◌, nat_le, List, [], ◌∷◌, map, Option, Some, None, arith}
use Rattle.std.proofs.lemmas.Bool.{cases_lt, and_parts, eqb-true}
use Rattle.ld_table.specs.Words.{numbers_from}
use Rattle.ld_lsn.specs.Number.{epoch_of, esn_of, numbered, home_epoch, epoch_end}
use Rattle.ld_config.specs.declared.config.Config.{Config}
use Rattle.ld_msg.specs.declared.msg.What.{What}
use Rattle.ld_msg.specs.declared.msg.What.TheVariants.{Rec, Hole, Bridge, Plug, Withheld}
use Rattle.ld_msg.specs.declared.msg.Summary.{Summary}
use Rattle.ld_msg.specs.declared.msg.Body.{Body}
use Rattle.ld_msg.specs.declared.msg.Body.TheVariants as bodies
use Rattle.ld_msg.specs.Register.{epochs_of}
use Rattle.ld_msg.specs.Digest.{Told, top_place, trim_place, digest_trim, digest_lng, plan_end, plan_floor}
use Rattle.ld_msg.specs.Reading.{Held, trim_told, trim_held, page_at, record_held, is_hole, hole_held, is_plug, plug_held, end_shown, end_held, bridge_to}
use Rattle.ld_machine.specs.Config.{all_nodes}
use Rattle.ld_machine.specs.Facts.{Happened}
use Rattle.ld_machine.specs.World.{World, In}
use Rattle.ld_safety.proofs.Lists.{cond_both, not_none, any_in, In_left, In_right}
use Rattle.ld_safety.proofs.ReaderSteps.{end_in}
use Rattle.ld_safety.proofs.Given.{GivenTrim, GivenEntry, GivenSummary, AnyEpoch, AnyShown, AnyReleased, SmallGood}
use Rattle.ld_safety.proofs.GivenSteps.{BaseGiven}
use Rattle.ld_safety.proofs.GivenItems.{PageWith, page_with, page_told, record_in}
use Rattle.ld_safety.proofs.Along.{Along}
use Rattle.ld_safety.proofs.Said.{Said, SaidHere}
use Rattle.ld_safety.proofs.Settled.{Reached, TrimFine, CloseFine, ShowFine, ReleaseFine, LngFine, OfZero, ClosedBy}
use Rattle.ld_safety.proofs.Shown.{above_trim}
use Rattle.ld_safety.proofs.Plannings.{ends_in}
use Rattle.ld_safety.proofs.LostPages.{home_is, place_in}
use Rattle.ld_safety.proofs.LostSettled.{Within}
use Rattle.ld_safety.proofs.Withheld.{told_in}
use Rattle.ld_safety.proofs.Carried as carried
use Rattle.ld_calm.proofs.Measure.{item_marks, numbers_marks}
use Rattle.ld_calm.proofs.Marked.{in_numbers}
use Rattle.ld_calm.proofs.Points.{AllPoints, point_of_trim}
use Rattle.ld_calm.proofs.Places.{most_in, most_marked, own_most, says_most, top_most, lng_most}

-- ---- lists ----
in_mapped : {X Y : Type 0} (f : X → Y) (x : X) (xs : List X) → In x xs → In (f x) (map f xs)
in_mapped f x [] i = absurd i
in_mapped f x (y ∷ xs) (inl e) = inl (ap f e)
in_mapped f x (y ∷ xs) (inr i) = inr (in_mapped f x xs i)

hole_of : (o : Option What) → is_hole o ≡ true → o ≡ Some Hole
hole_of (Some Hole) h = refl
hole_of (Some (Rec p)) h = absurd cc
hole_of (Some Bridge) h = absurd cc
hole_of (Some Plug) h = absurd cc
hole_of (Some Withheld) h = absurd cc
hole_of None h = absurd cc

plug_of : (o : Option What) → is_plug o ≡ true → o ≡ Some Plug
plug_of (Some Plug) h = refl
plug_of (Some (Rec p)) h = absurd cc
plug_of (Some Bridge) h = absurd cc
plug_of (Some Hole) h = absurd cc
plug_of (Some Withheld) h = absurd cc
plug_of None h = absurd cc

-- an end that is shown at a number
record EndAt (s : ℕ) (b : Body) : Type 0 where
  round : ℕ
  from : ℕ
  end : ℕ
  loss : Bool
  is : b ≡ bodies.ReadEnded round from end loss
  home : home_epoch end ≡ home_epoch s

end_at : (s : ℕ) (b : Body) (x : Bool) → end_shown s b ≡ Some x → EndAt s b
end_at s (bodies.ReadEnded round from end loss) x h = cond_both ((home_epoch end == home_epoch s) && nat_le end s) (Some loss) None (λ o. o ≡ Some x → EndAt s (bodies.ReadEnded round from end loss))
    (λ t q. record { round = round; from = from; end = end; loss = loss; is = refl; home = eqb-true (home_epoch end) (home_epoch s) (and_parts (home_epoch end == home_epoch s) (nat_le end s) t).0 }) (λ t q. absurd (not_none q)) h
end_at s _ x h = absurd (not_none h)

-- ---- a plan's end ----
end_positive : (e : ℕ) (d : List Told) → 0 < plan_end e d
unfolding plan_end
end_positive e d = omega arith

-- below it is nothing but what was told, known good or trimmed
under : (e : ℕ) (d : List Told) (n k : ℕ) → top_place d d ≤ n → digest_lng d ≤ n → trim_place e (digest_trim d) < k → k < plan_end e d → k ≤ n
unfolding plan_end plan_floor
under e d n k a b u v = omega arith

-- ---- in a state of a run ----
module _ (c : Config) (hs : List Happened) (w : World) (B : BaseGiven c hs w × Along c hs w) (P : AllPoints c hs w) (some : (n : ℕ) × In n (all_nodes c)) where
  abbrev pub HeldSaid : ℕ → Body → Type 0
  HeldSaid l b = carried.HeldOk (Said hs w.made w.state.register) (TrimFine c hs w.state.network.sent w.state.register) (CloseFine c hs w.made w.state.network.sent w.state.register) (Reached w.state.register) (ShowFine c hs w.made w.state.network.sent w.state.register) (ReleaseFine c hs w.state.network.sent w.state.register) (SaidHere hs w.made w.state.register) (LngFine c hs w.state.network.sent w.state.register) l b

  abbrev pub HeldGiven : ℕ → Body → Type 0
  HeldGiven l b = carried.HeldOk (GivenEntry hs) (GivenTrim hs) (GivenSummary hs) AnyEpoch AnyShown AnyReleased (GivenEntry hs) SmallGood l b

  -- what is held, by both
  abbrev pub AllHeld : ℕ → List (ℕ × Held) → Type 0
  AllHeld l ds = (h : ℕ × Held) → In h ds → HeldSaid l h.1.body × HeldGiven l h.1.body

  -- a number that was given
  pub given_marked : (l n : ℕ) → 0 < esn_of n → esn_of n ≤ most_in l (epoch_of n) w.state.sequencers → In n (item_marks c w.state l)
  given_marked l n a b = In_left n (numbers_marks l w.state.sequencers) _ (let q : numbered (epoch_of n) (esn_of n) ≡ n = omega arith in subst (λ k. In k (numbers_marks l w.state.sequencers)) q (most_marked l (epoch_of n) (esn_of n) w.state.sequencers a b))

  -- the end of an epoch that was handed out, or of epoch 0
  pub epoch_marked : (l e : ℕ) → e ≤ (epochs_of w.state.register l).epoch → In (epoch_end e) (item_marks c w.state l)
  epoch_marked l e h = In_right (epoch_end e) (numbers_marks l w.state.sequencers) _ (In_left (epoch_end e) (map epoch_end (numbers_from 0 ((epochs_of w.state.register l).epoch + 1))) _
      (in_mapped epoch_end e (numbers_from 0 ((epochs_of w.state.register l).epoch + 1)) (let q : 0 + e ≡ e = omega arith in subst (λ k. In k (numbers_from 0 ((epochs_of w.state.register l).epoch + 1))) q (in_numbers 0 ((epochs_of w.state.register l).epoch + 1) e (omega arith)))))

  -- a point
  pub point_marked : (l t : ℕ) → 0 < t → GivenTrim hs l t → In t (item_marks c w.state l)
  point_marked l t p g = elim (point_of_trim c hs w P some l t g) [
    | inl z ↦ absurd (omega arith)
    | inr i ↦ In_right t (numbers_marks l w.state.sequencers) _ (In_right t (map epoch_end (numbers_from 0 ((epochs_of w.state.register l).epoch + 1))) _ i)
  ]

  -- an entry that is kept or read, but a bridge
  pub here_marked : (l b n : ℕ) (x : What) → SaidHere hs w.made w.state.register l b n x → (x ≡ Bridge → ⊥) → In n (item_marks c w.state l)
  here_marked l b n x h u = given_marked l n h.given.place.above (elim h.says [
    | inl s ↦ says_most c hs w B P some l b n x s u
    | inr (inl k) ↦ own_most c hs w B P some l n k.good.says.payload k.good.says.appended
    | inr (inr o) ↦ (let z = o.says.says in says_most c hs w B P some l z.ballot n x (inr (record { later = z.later; basis = z.basis; planned = z.planned; item = z.item })) u)
  ])

  module _ (l : ℕ) (ds : List (ℕ × Held)) (H : AllHeld l ds) where
    -- what a page that is held shows
    page_marked : (s : ℕ) (x : What) → (x ≡ Bridge → ⊥) → (h : ℕ × Held) → In h ds → (p : PageWith s x h.1.body) → In p.entry (told_in p.entries) → In s (item_marks c w.state l)
    page_marked s x u h i p j =
        let o = (subst (HeldSaid l) p.is_page (H h i).0).0 p.entry j in
        subst (λ k. In k (item_marks c w.state l)) p.number (here_marked l p.entry.ballot p.entry.number p.entry.what o (λ q. u (sym p.what ∙ q)))

    pub record_marked : (s : ℕ) (p : List ℕ) → record_held s ds ≡ Some p → In s (item_marks c w.state l)
    record_marked s p e = let r = record_in s ds p e in page_marked s (Rec p) (λ q. cc) r.0 r.1 r.2 (page_told s (Rec p) r.0.1.body r.2 refl)

    pub hole_marked : (s : ℕ) → hole_held s ds ≡ true → In s (item_marks c w.state l)
    hole_marked s e = let r = any_in (λ (h : ℕ × Held). is_hole (page_at s h.1.body)) ds e in let p = page_with s Hole r.0.1.body (hole_of (page_at s r.0.1.body) r.2) in page_marked s Hole (λ q. cc) r.0 r.1 p (page_told s Hole r.0.1.body p refl)

    pub plug_marked : (s : ℕ) → plug_held s ds ≡ true → In s (item_marks c w.state l)
    plug_marked s e = let r = any_in (λ (h : ℕ × Held). is_plug (page_at s h.1.body)) ds e in let p = page_with s Plug r.0.1.body (plug_of (page_at s r.0.1.body) r.2) in page_marked s Plug (λ q. cc) r.0 r.1 p (page_told s Plug r.0.1.body p refl)

    -- the home epoch of an end that is shown was handed out, or is 0
    pub end_marked : (s : ℕ) (loss : Bool) → end_held s ds ≡ Some loss → In (bridge_to s) (item_marks c w.state l)
    end_marked s loss e =
        let r = end_in s ds loss e in let k = end_at s r.0.1.body loss r.2 in
        let o = subst (HeldSaid l) k.is (H r.0 r.1).0 in
        subst (λ j. In (epoch_end j) (item_marks c w.state l)) k.home (by_closed k.from k.end o.summary o.is o.closed.1) where
          by_closed : (from end : ℕ) (y : Summary) → end ≡ numbered (home_epoch from) y.end → OfZero (home_epoch from) y ⊎ ClosedBy c hs w.made w.state.network.sent w.state.register l (home_epoch from) y → In (epoch_end (home_epoch end)) (item_marks c w.state l)
          by_closed from end y q (inl z) =
              let a = z.0 in let b = z.1 in let h = (home_is end 0 (omega arith) (omega arith)).0 in subst (λ j. In (epoch_end j) (item_marks c w.state l)) (sym h) (epoch_marked l 0 (omega arith))
          by_closed from end y q (inr z) =
              let p = z.plan in let u = p.end in let lo : 0 < plan_end (home_epoch from) p.basis.digest = end_positive (home_epoch from) p.basis.digest in
              let hi = ends_in c hs w.state.network.sent w.made w.state.register l (home_epoch from) y.ballot p.basis (B.1.plans l (home_epoch from) y.ballot p.basis p.planned) in
              let h = (home_is end (home_epoch from) (omega arith) (omega arith)).0 in let k = p.reached.1 in
              subst (λ j. In (epoch_end j) (item_marks c w.state l)) (sym h) (epoch_marked l (home_epoch from) k)

    pub trim_marked : (s : ℕ) → 0 < s → s ≤ trim_held ds → In (trim_held ds) (item_marks c w.state l)
    trim_marked s p h = point_marked l (trim_held ds) (omega arith) (all_given ds (λ x i. (H x i).1)) where
      max_given : (a b : ℕ) → GivenTrim hs l a → GivenTrim hs l b → GivenTrim hs l (max a b)
      max_given a b x y = elim (cases_lt a b) [
        | inl e ↦ subst (GivenTrim hs l) (let z : b ≡ max a b = omega arith in z) y
        | inr e ↦ subst (GivenTrim hs l) (let z : a ≡ max a b = omega arith in z) x
      ]

      told_given : (b : Body) → HeldGiven l b → GivenTrim hs l (trim_told b)
      told_given (bodies.ReadTrim round from t) h = h
      told_given _ h = inl refl

      all_given : (ds : List (ℕ × Held)) → ((h : ℕ × Held) → In h ds → HeldGiven l h.1.body) → GivenTrim hs l (trim_held ds)
      all_given [] h = inl refl
      all_given (d ∷ ds) h = max_given _ _ (told_given d.1.body (h d (inl refl))) (all_given ds (λ x i. h x (inr i)))

  -- a number of a closed epoch between its plan's trim and end
  pub within_marked : (l s : ℕ) → Within w l s → In s (item_marks c w.state l)
  within_marked l s W = by_closed (B.1.said.register l (home_epoch s) W.summary W.closed).1 where
    by_closed : OfZero (home_epoch s) W.summary ⊎ ClosedBy c hs w.made w.state.network.sent w.state.register l (home_epoch s) W.summary → In s (item_marks c w.state l)
    by_closed (inl z) = absurd (let a = z.0 in let b = W.positive in omega arith)
    by_closed (inr z) =
        let p = z.plan in let u = p.end in let v = p.trim in
        let hi = ends_in c hs w.state.network.sent w.made w.state.register l (home_epoch s) W.summary.ballot p.basis (B.1.plans l (home_epoch s) W.summary.ballot p.basis p.planned) in
        let at = place_in s W.summary.end W.positive W.below (omega arith) in
        let up = above_trim (home_epoch s) s (digest_trim p.basis.digest) (sym at.0) at.1 (let a = W.above in omega arith) in
        let a = top_most c hs w B P some l (home_epoch s) W.summary.ballot p.basis p.planned in
        let b = lng_most c hs w B P some l (home_epoch s) W.summary.ballot p.basis p.planned in
        let k = at.2 in
        given_marked l s at.1 (subst (λ e. esn_of s ≤ most_in l e w.state.sequencers) at.0 (under (home_epoch s) p.basis.digest (most_in l (home_epoch s) w.state.sequencers) (esn_of s) a b up (omega arith)))
