-- Where nodes keep what was settled, as many nodes as there are copies answered for a number that a reader may call lost, and none of them shows a clean page without it.
use Rattle.std.proofs.Common.{◌≡◌, ◌∙◌, ◌⊎◌, ◌≤◌, ◌<◌, ℕ, inl, inr, refl, ap, sym, subst, Bool, true, false, not, ◌&&◌, ◌||◌, ◌==◌, if◌then◌else◌, nat_lt, nat_le, List, [], ◌∷◌, Option, Some, None, is_some, arith}
use Rattle.std.proofs.lemmas.Bool.{cases_Bool, and_parts, or_cases, or_left, or_right, eqb-true, ltb-true, leb-true}
use Rattle.ld_table.specs.Table.{find}
use Rattle.ld_table.specs.Named.{find_named}
use Rattle.ld_table.specs.Words.{all_of, any_of}
use Rattle.ld_lsn.specs.Number.{epoch_of, esn_of, numbered, home_epoch}
use Rattle.ld_config.specs.declared.config.Config.{Config}
use Rattle.ld_schedule.specs.declared.event.Event.{Event}
use Rattle.ld_msg.specs.declared.msg.Msg.{Msg}
use Rattle.ld_msg.specs.declared.msg.Entry.{Entry}
use Rattle.ld_msg.specs.declared.msg.Summary.{Summary}
use Rattle.ld_msg.specs.declared.msg.Body.{Body}
use Rattle.ld_msg.specs.declared.msg.Body.TheVariants as bodies
use Rattle.ld_msg.specs.Reading.{Held, is_loss, leaves_open, lacks, is_lost_for, knows_end_above, entry_at}
use Rattle.ld_msg.specs.Reading as reading
use Rattle.ld_msg.specs.Reader.{Reader, shown_swaps}
use Rattle.ld_msg.specs.Register.{epochs_of}
use Rattle.ld_machine.specs.Config.{fixed_of, fixed_at, set_at}
use Rattle.ld_machine.specs.Facts.{Happened}
use Rattle.ld_machine.specs.Safe.{LossesHappened}
use Rattle.ld_machine.specs.World.{World, In, Sent, begin, has_told, has_joined, says_stored, says_settled}
use Rattle.ld_machine.specs.Invariant.{Closed}
use Rattle.ld_machine.specs.Losses.{EndsAsLoss}
use Rattle.ld_machine.specs.Run.{Move, history, after_step, world_after}
use Rattle.ld_safety.specs.Lost.{CopiesAreLost, has_copied}
use Rattle.ld_safety.proofs.Lists.{Some_inj, not_none, any_in, not_both, count_mono}
use Rattle.ld_safety.proofs.Members.{find_in, In_filter}
use Rattle.ld_safety.proofs.Traces.{Keeps}
use Rattle.ld_safety.proofs.Registers.{Reached, look_like}
use Rattle.ld_safety.proofs.Specs.{SpecFine}
use Rattle.ld_safety.proofs.LostRounds.{answer_to, place_of}
use Rattle.ld_safety.proofs.LostAlong.{RoundsOf}
use Rattle.ld_safety.proofs.LostLaw.{SettledApart, EnoughNow, LossesSettled, LossesTold, losses_happened}
use Rattle.ld_safety.proofs.LostLaws.{copies_are_lost}
use Rattle.ld_safety.proofs.LostPages.{Enough, CleanKept, CleanPage, home_is, place_in}
use Rattle.ld_safety.proofs.LostShown.{Facts, PageFacts}
use Rattle.ld_safety.proofs.LostFresh.{FreshAt, Seeing, seeing_kept}
use Rattle.ld_safety.proofs.LostTold.{told_copied}
use Rattle.ld_safety.proofs.Joins.{Joins, now_count, now_members}

-- ---- what is held ----

-- a clean page that covers the number without it
pub record Lacking (s : ℕ) (b : Body) : Type 0 where
  pub round : ℕ
  pub from : ℕ
  pub upto : ℕ
  pub entries : List Entry
  pub is : b ≡ bodies.ReadPage round from upto true entries
  pub low : from ≤ s
  pub high : s ≤ upto
  pub without : is_some (entry_at s entries) ≡ false

not_is : (b : Bool) → not b ≡ true → b ≡ false
not_is true h = absurd cc
not_is false h = refl

lacks_parts : (s : ℕ) (b : Body) → lacks s b ≡ true → Lacking s b
lacks_parts s (bodies.ReadPage round from upto clean es) h =
    let p = and_parts clean ((nat_le from s && nat_le s upto) && not (is_some (entry_at s es))) h in
    let q = and_parts (nat_le from s && nat_le s upto) (not (is_some (entry_at s es))) p.1 in
    let r = and_parts (nat_le from s) (nat_le s upto) q.0 in
    record { round = round; from = from; upto = upto; entries = es; is = ap (λ z. bodies.ReadPage round from upto z es) p.0; low = leb-true _ _ r.0; high = leb-true _ _ r.1; without = not_is _ q.1 }
lacks_parts s _ h = absurd cc

-- a lost node that knows an end above the number
pub record KnowsAbove (s : ℕ) (b : Body) : Type 0 where
  pub number : ℕ
  pub round : ℕ
  pub generation : ℕ
  pub end : ℕ
  pub is : b ≡ bodies.LostHere number round generation end
  pub home : home_epoch number ≡ home_epoch s
  pub above : s < end

knows_cases : (s : ℕ) (b : Body) → knows_end_above s b ≡ true → KnowsAbove s b ⊎ Lacking s b
knows_cases s (bodies.LostHere n u g end) h = let p = and_parts (home_epoch n == home_epoch s) (nat_lt s end) h in inl (record { number = n; round = u; generation = g; end = end; is = refl; home = eqb-true _ _ p.0; above = ltb-true _ _ p.1 })
knows_cases s (bodies.ReadPage round from upto clean es) h = inr (lacks_parts s (bodies.ReadPage round from upto clean es) h)
knows_cases s _ h = absurd cc

-- the closed epoch of the number, which lies between its plan's trim and end
pub record Within (w : World) (l s : ℕ) : Type 0 where
  pub summary : Summary
  pub closed : Closed w l (home_epoch s) summary
  pub positive : 0 < home_epoch s
  pub above : summary.trim < s
  pub below : s < numbered (home_epoch s) summary.end

page_home : (c : Config) (w : World) (y l s from upto : ℕ) (es : List Entry) → CleanPage c w y l from upto es → from ≤ s → s ≤ upto → home_epoch s ≡ home_epoch from
page_home c w y l s from upto es P lo hi = let a = P.starts in let z = P.ends in let x = P.place in (home_is s (home_epoch from) (omega arith) (omega arith)).0

-- ---- who answered for the copy ----
copied_by : (b s t j : Bool) → (if b then (s || j) else (t || j)) ≡ true → ((if b then s else t) ≡ true) ⊎ (j ≡ true)
copied_by true s t j h = or_cases s j h
copied_by false s t j h = or_cases t j h

copied_of : (b s t j : Bool) → (if b then s else t) ≡ true → (if b then (s || j) else (t || j)) ≡ true
copied_of true s t j h = or_left s j h
copied_of false s t j h = or_left t j h

joined_of : (b s t j : Bool) → j ≡ true → (if b then (s || j) else (t || j)) ≡ true
joined_of true s t j h = or_right s j h
joined_of false s t j h = or_right t j h

copied_parts : (w : World) (l s : ℕ) (z : Summary) (y : ℕ) → home_epoch s ≡ epoch_of s → has_copied w l s z y ≡ true → (told_copied w l s z y ≡ true) ⊎ Joins w.joined l (home_epoch s) y
copied_parts w l s z y q h = elim (copied_by (nat_le (esn_of s) z.lng) (has_told w (says_stored s) l (epoch_of s) y) (has_told w (says_settled s) l z.ballot y) (has_joined w l (epoch_of s) y) h) [ inl t ↦ inl t | inr j ↦ inr (subst (λ e. Joins w.joined l e y) (sym q) j) ]

told_copies : (w : World) (l s : ℕ) (z : Summary) (y : ℕ) → told_copied w l s z y ≡ true → has_copied w l s z y ≡ true
told_copies w l s z y h = copied_of (nat_le (esn_of s) z.lng) (has_told w (says_stored s) l (epoch_of s) y) (has_told w (says_settled s) l z.ballot y) (has_joined w l (epoch_of s) y) h

joined_copies : (w : World) (l s : ℕ) (z : Summary) (y : ℕ) → home_epoch s ≡ epoch_of s → Joins w.joined l (home_epoch s) y → has_copied w l s z y ≡ true
joined_copies w l s z y q j = joined_of (nat_le (esn_of s) z.lng) (has_told w (says_stored s) l (epoch_of s) y) (has_told w (says_settled s) l z.ballot y) (has_joined w l (epoch_of s) y) (subst (λ e. Joins w.joined l e y) q j)

module _ (c : Config) (w : World) (A : RoundsOf w) (F : (m : Msg) → In m w.state.network.sent → Facts c w m) (name : List ℕ) (d : Reader) (f : find_named name w.state.readers ≡ Some d) where
  facts_of : (h : ℕ × Held) → In h d.held → PageFacts c w h.0 d.log h.1.body
  facts_of h i = F (answer_to h.0 d h.1.body) (A.held name d h f i) d.number refl

  page_held : (h : ℕ × Held) → In h d.held → (k : Lacking d.next h.1.body) → CleanPage c w h.0 d.log k.from k.upto k.entries
  page_held h i k = (facts_of h i).pages k.round k.from k.upto k.entries k.is

  within_page : (h : ℕ × Held) → In h d.held → (k : Lacking d.next h.1.body) → Within w d.log d.next
  within_page h i k = let P = page_held h i k in let q = page_home c w h.0 d.log d.next k.from k.upto k.entries P k.low k.high in let a = P.above in let lo = k.low in let hi = k.high in let z = P.ends in record {
    summary = P.summary;
    closed = subst (λ j. Closed w d.log j P.summary) (sym q) P.closed;
    positive = let f = P.positive in omega arith;
    above = omega arith;
    below = subst (λ j. d.next < numbered j P.summary.end) (sym q) (omega arith);
  }

  within_known : (h : ℕ × Held) → In h d.held → (k : KnowsAbove d.next h.1.body) → Within w d.log d.next
  within_known h i k =
      let e = (facts_of h i).ends k.number k.round k.generation k.end k.is (let z = k.above in omega arith) in
      let t : k.number ≤ d.next = subst (λ b. place_of b ≤ d.next) k.is (A.waves (answer_to h.0 d h.1.body) d.number name d (A.held name d h f i) (inl refl) f refl).place in
      record {
        summary = e.summary;
        closed = subst (λ j. Closed w d.log j e.summary) k.home e.closed;
        positive = let f = e.positive in let g = k.home in omega arith;
        above = let a = e.above in omega arith;
        below = subst (λ j. d.next < numbered j e.summary.end) k.home (let a = e.is in let z = k.above in omega arith);
      }

  pub within : (set : List ℕ) → is_loss d.next set d.held ≡ true → Within w d.log d.next
  unfolding is_loss
  within set l =
      let hs = reading.within set d.held in
      let p = and_parts (all_of (λ y. leaves_open d.next (find y d.held)) set && any_of (λ h. is_lost_for d.next h.1.body) hs) (any_of (λ h. knows_end_above d.next h.1.body) hs) l in
      let x = any_in (λ (h : ℕ × Held). knows_end_above d.next h.1.body) hs p.1 in
      let i = (In_filter _ x.0 d.held x.1).0 in
      elim (knows_cases d.next x.0.1.body x.2) [ inl k ↦ within_known x.0 i k | inr k ↦ within_page x.0 i k ]

  -- a clean page without the number, of the same close
  record PageWithout (y : ℕ) (z : Within w d.log d.next) : Type 0 where
    from : ℕ
    upto : ℕ
    entries : List Entry
    page : CleanPage c w y d.log from upto entries
    low : from ≤ d.next
    high : d.next ≤ upto
    without : is_some (entry_at d.next entries) ≡ false
    home : home_epoch d.next ≡ home_epoch from
    same : z.summary ≡ page.summary

  page_without : (y : ℕ) (h : Held) (z : Within w d.log d.next) → find y d.held ≡ Some h → lacks d.next h.body ≡ true → PageWithout y z
  page_without y h z q b =
      let k = lacks_parts d.next h.body b in
      let P = page_held (y, h) (find_in y d.held h q) k in
      let e = page_home c w y d.log d.next k.from k.upto k.entries P k.low k.high in
      record { from = k.from; upto = k.upto; entries = k.entries; page = P; low = k.low; high = k.high; without = k.without; home = e; same = Some_inj (sym z.closed ∙ subst (λ j. Closed w d.log j P.summary) (sym e) P.closed) }

  abbrev Set : List ℕ
  Set = set_at c w.state.register d.log (home_epoch d.next)

  -- ---- nodes that took places in the epoch ----
  module _ (K : CleanKept c w) (H : FreshAt w.joined (Sent w) w.state.register d) (equal : shown_swaps d.seen ≡ (epochs_of w.state.register d.log).swaps) (z : Within w d.log d.next) where
    reached : Reached w.state.register d.log (home_epoch d.next)
    reached = (z.positive, (K.bounded d.log (home_epoch d.next) z.summary z.closed z.positive).0)

    -- they show the number in each page that covers it
    not_joined : (y : ℕ) (h : Held) → find y d.held ≡ Some h → lacks d.next h.body ≡ true → Joins w.joined d.log (home_epoch d.next) y → ⊥
    not_joined y h q b j =
        let k = lacks_parts d.next h.body b in
        let i = find_in y d.held h q in
        let P = page_held (y, h) i k in
        let e = page_home c w y d.log d.next k.from k.upto k.entries P k.low k.high in
        not_both _ (H.right equal (answer_to y d h.body) (A.held name d (y, h) f i) refl (H.held (y, h) i) k.round k.from k.upto k.entries k.is d.next k.low k.high (subst (λ v. Joins w.joined d.log v y) e j)) k.without

    home_same : home_epoch d.next ≡ epoch_of d.next
    home_same = (place_in d.next z.summary.end z.positive z.below (K.bounded d.log (home_epoch d.next) z.summary z.closed z.positive).1).0

    -- who answered for its copy told so, or took a place
    by_told : (y : ℕ) → has_copied w d.log d.next z.summary y ≡ true → (told_copied w d.log d.next z.summary y ≡ true) ⊎ Joins w.joined d.log (home_epoch d.next) y
    by_told y = copied_parts w d.log d.next z.summary y home_same

    of_told : (y : ℕ) → told_copied w d.log d.next z.summary y ≡ true → has_copied w d.log d.next z.summary y ≡ true
    of_told y = told_copies w d.log d.next z.summary y

    -- as many answered of the nodes that were fixed are there now
    enough_now : Enough c w d.log d.next z.summary → EnoughNow c w d.log d.next z.summary
    enough_now h =
        let a = count_mono (told_copied w d.log d.next z.summary) (has_copied w d.log d.next z.summary) (fixed_at c w.state.register d.log (home_epoch d.next)) (λ y i t. of_told y t) in
        let b = now_count c w.joined w.state.register d.log (home_epoch d.next) (has_copied w d.log d.next z.summary) K.follow K.each reached (λ y j. joined_copies w d.log d.next z.summary y home_same j) in
        let g = (look_like c w.state.register d.log (home_epoch d.next) K.each reached).factor in omega arith

  -- as many as there are copies answered, or none of some nodes of the epoch gave such a page
  some_lack : (K : CleanKept c w) → FreshAt w.joined (Sent w) w.state.register d → shown_swaps d.seen ≡ (epochs_of w.state.register d.log).swaps → (z : Within w d.log d.next) (ys : List ℕ) → ((y : ℕ) → In y ys → In y Set) → EnoughNow c w d.log d.next z.summary ⊎ ((y : ℕ) (h : Held) → In y ys → find y d.held ≡ Some h → lacks d.next h.body ≡ true → ⊥)
  some_lack K H equal z [] m = inr (λ y h i. absurd i)
  some_lack K H equal z (x ∷ ys) m = elim (some_lack K H equal z ys (λ y i. m y (inr i))) [
    | inl e ↦ inl e
    | inr none ↦ by_held (find x d.held) refl none
  ] where
    with_first : ((h : Held) → find x d.held ≡ Some h → lacks d.next h.body ≡ true → ⊥) → ((y : ℕ) (h : Held) → In y ys → find y d.held ≡ Some h → lacks d.next h.body ≡ true → ⊥) → (y : ℕ) (h : Held) → In y (x ∷ ys) → find y d.held ≡ Some h → lacks d.next h.body ≡ true → ⊥
    with_first f none y h (inl e) q b = f h (ap (λ v. find v d.held) (sym e) ∙ q) b
    with_first f none y h (inr i) q b = none y h i q b

    by_held : (o : Option Held) → find x d.held ≡ o → ((y : ℕ) (h : Held) → In y ys → find y d.held ≡ Some h → lacks d.next h.body ≡ true → ⊥) → EnoughNow c w d.log d.next z.summary ⊎ ((y : ℕ) (h : Held) → In y (x ∷ ys) → find y d.held ≡ Some h → lacks d.next h.body ≡ true → ⊥)
    by_held None q none = inr (with_first (λ h g b. not_none (sym q ∙ g)) none)
    by_held (Some a) q none = elim (cases_Bool (lacks d.next a.body)) [
      | inl b ↦ (let P = page_without x a z q b in elim (P.page.short d.next P.low P.high) [
        | inl e ↦ inl (enough_now K H equal z (subst (λ (u : Summary). Enough c w d.log d.next u) (sym P.same) e))
        | inr e ↦ absurd (elim (now_members c w.joined w.state.register d.log (home_epoch d.next) x K.follow K.each (reached K H equal z) (m x (inl refl))) [
          | inl i ↦ not_both _ (e (subst (λ j. In x (fixed_at c w.state.register d.log j)) P.home i)) P.without
          | inr j ↦ not_joined K H equal z x a q b j
        ])
      ])
      | inr b ↦ inr (with_first (λ h g u. not_both _ (subst (λ (v : Held). lacks d.next v.body ≡ true) (Some_inj (sym g ∙ q)) u) b) none)
    ]

  pub settled_apart : CleanKept c w → FreshAt w.joined (Sent w) w.state.register d → ((l e : ℕ) → Reached w.state.register l e → SpecFine (fixed_of c w.state.register l e)) → shown_swaps d.seen ≡ (epochs_of w.state.register d.log).swaps
      → is_loss d.next (set_at c w.state.register d.log (home_epoch d.next)) d.held ≡ true → SettledApart c w d.log d.next d.held
  settled_apart K H F equal l = let z = within (set_at c w.state.register d.log (home_epoch d.next)) l in let o = reached K H equal z in record {
    summary = z.summary;
    closed = z.closed;
    fine = let a = (F d.log (home_epoch d.next) o).most in let b = look_like c w.state.register d.log (home_epoch d.next) K.each o in let u = b.factor in let v = b.size in omega arith;
    apart = λ y h i q b t. elim (by_told K H equal z y t) [
      | inl t ↦ (let P = page_without y h z q b in not_both _ (P.page.has d.next P.low P.high (subst (λ (u : Summary). told_copied w d.log d.next u y ≡ true) P.same t)) P.without)
      | inr j ↦ not_joined K H equal z y h q b j
    ];
    copied = some_lack K H equal z (set_at c w.state.register d.log (home_epoch d.next)) (λ y i. i);
    enough = λ h. enough_now K H equal z (K.enough d.log d.next z.summary z.closed z.above z.below h);
    how = K.how d.log (home_epoch d.next) z.summary z.closed z.positive;
  }

-- ---- the laws, where nodes keep what was settled ----
module _ (c : Config) (Q : List Happened → World → Type 0) (C : (hs : List Happened) (w : World) → Q hs w → CleanKept c w) (F : (hs : List Happened) (w : World) → Q hs w → (l e : ℕ) → Reached w.state.register l e → SpecFine (fixed_of c w.state.register l e)) where
  pub losses_settled : LossesSettled c (Seeing c Q C)
  losses_settled hs w K name d f e l = let G = K.1.0 in settled_apart c w K.0.1.1 G.1.1 name d f (C hs w G.0.0.1) (K.1.1 name d f) (F hs w G.0.0.1) e l

  pub happened : Keeps c Q → LossesTold c Q → (es : List Event) → LossesHappened c (history c es)
  happened K T es = losses_happened c (Seeing c Q C) (seeing_kept c Q C K) losses_settled (λ hs w k. T hs w (k.0, k.1.0.0.0.1)) es

  pub stood : Keeps c Q → (name : List ℕ) (l s round : ℕ) (before : List Move) (asks : Move) (between : List Move) (gives : Move) → EndsAsLoss c name l s round before asks between gives → CopiesAreLost c (after_step c (world_after c (begin c) before) asks) l s
  stood K name l s round before asks between gives E = copies_are_lost c (Seeing c Q C) (seeing_kept c Q C K) losses_settled name l s round before asks between gives E
