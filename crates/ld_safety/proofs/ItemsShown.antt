-- What a reader is given is so for good.
use Rattle.std.proofs.Common.{◌≡◌, ◌∙◌, ◌≤◌, ◌<◌, ℕ, inl, inr, refl, ap, sym, subst, Bool, true, false, ◌==◌, nat_lt, nat_le, if◌then◌else◌, List, Option, Some, None, arith, ◌&&◌, ◌-◌}
use Rattle.std.proofs.lemmas.Bool.{and_parts, eqb-true, leb-true, ltb-true}
use Rattle.ld_table.specs.Table.{find, put}
use Rattle.ld_table.specs.Named.{find_named}
use Rattle.ld_lsn.specs.Number.{epoch_of, esn_of, numbered, home_epoch, last_esn}
use Rattle.ld_config.specs.declared.config.Config.{Config}
use Rattle.ld_transcript.specs.declared.line.Line.{Line}
use Rattle.ld_transcript.specs.declared.line.Line.TheVariants as lines
use Rattle.ld_transcript.specs.declared.line.GapKind.TheVariants as gaps
use Rattle.ld_msg.specs.declared.msg.What.{What}
use Rattle.ld_msg.specs.declared.msg.What.TheVariants.{Rec, Hole, Bridge, Plug, Withheld}
use Rattle.ld_msg.specs.declared.msg.Entry.{Entry}
use Rattle.ld_msg.specs.declared.msg.Summary.{Summary}
use Rattle.ld_msg.specs.declared.msg.Msg.{Msg}
use Rattle.ld_msg.specs.declared.msg.Body.{Body}
use Rattle.ld_msg.specs.declared.msg.Body.TheVariants as bodies
use Rattle.ld_msg.specs.Register.{Register, View}
use Rattle.ld_msg.specs.Reading.{Held, Item, TrimTo, RecordHere, HoleHere, BridgeTo, LossHere, LossTo, page_at, is_hole, hole_held, record_held, end_shown, end_held, bridge_to, trim_held}
use Rattle.ld_msg.specs.Reader.{Reader, Read, gives, heard, held_with, is_newer, round_of, nothing_read, look_of}
use Rattle.ld_machine.specs.State.{State}
use Rattle.ld_machine.specs.Facts.{Happened}
use Rattle.ld_machine.specs.World.{Made, In}
use Rattle.ld_machine.specs.Step as Step
use Rattle.ld_safety.proofs.Lists.{Some_inj, not_none, only, any_in, In-append, cond_both}
use Rattle.ld_safety.proofs.Members.{In_put}
use Rattle.ld_safety.proofs.Plans.{end_above_trim}
use Rattle.ld_safety.proofs.ReaderSteps.{dropped_held, ReadKeeps, end_in}
use Rattle.ld_safety.proofs.GivenItems.{PageWith, page_with, record_in, page_told}
use Rattle.ld_safety.proofs.Protocol.{Basis, plan_of, Says, OwnSays, PlansOnce, AppendsOnce}
use Rattle.ld_safety.proofs.Settled.{Acknowledged, TrimFine, CloseFine, ShowFine, ReleaseFine, LngFine, Reached}
use Rattle.ld_safety.proofs.Said.{Said, SaidHere}
use Rattle.ld_safety.proofs.Shown.{plan_ends}
use Rattle.ld_safety.proofs.Plannings.{PlanMade}
use Rattle.ld_safety.proofs.LossBook.{FoundBelow}
use Rattle.ld_safety.proofs.ItemFacts.{ClosedItem, RecordAt, BridgeAt, closed_item, acked_no_hole}
use Rattle.ld_safety.proofs.Carried as carried
use Rattle.ld_msg.specs.declared.style.Style.{Style}
use Rattle.ld_safety.proofs.Batches.{one_of, message_in}

hole_of : (o : Option What) → is_hole o ≡ true → o ≡ Some Hole
hole_of (Some (Rec q)) h = absurd cc
hole_of (Some Hole) h = refl
hole_of (Some Bridge) h = absurd cc
hole_of (Some Plug) h = absurd cc
hole_of (Some Withheld) h = absurd cc
hole_of None h = absurd cc

hole_in : (s : ℕ) (ds : List (ℕ × Held)) → hole_held s ds ≡ true → (h : ℕ × Held) × In h ds × PageWith s Hole h.1.body
hole_in s ds e = let a = any_in (λ (h : ℕ × Held). is_hole (page_at s h.1.body)) ds e in (a.0, a.1, page_with s Hole a.0.1.body (hole_of _ a.2))

-- an answer that tells of an end at or below the number
pub record EndedAt (s : ℕ) (loss : Bool) (b : Body) : Type 0 where
  pub round : ℕ
  pub from : ℕ
  pub end : ℕ
  pub is_end : b ≡ bodies.ReadEnded round from end loss
  pub home : home_epoch end ≡ home_epoch s
  pub low : end ≤ s

pub ended_at : (s : ℕ) (loss : Bool) (b : Body) → end_shown s b ≡ Some loss → EndedAt s loss b
ended_at s loss (bodies.ReadEnded round from end k) h = cond_both ((home_epoch end == home_epoch s) && nat_le end s) (Some k) None (λ o. o ≡ Some loss → EndedAt s loss (bodies.ReadEnded round from end k))
    (λ t q. let p = and_parts (home_epoch end == home_epoch s) (nat_le end s) t in record { round = round; from = from; end = end; is_end = ap (bodies.ReadEnded round from end) (Some_inj q); home = eqb-true _ _ p.0; low = leb-true _ _ p.1 }) (λ t q. absurd (not_none q)) h
ended_at s loss _ h = absurd (not_none h)

-- the home of a place of an epoch
pub home_numbered : (e k : ℕ) → 0 < k → k ≤ last_esn → home_epoch (numbered e k) ≡ e
home_numbered e k a b = cond_both ((esn_of (numbered e k) == 0) && nat_lt 0 (epoch_of (numbered e k))) (epoch_of (numbered e k) - 1) (epoch_of (numbered e k)) (λ x. x ≡ e)
    (λ t. absurd (let p = and_parts (esn_of (numbered e k) == 0) (nat_lt 0 (epoch_of (numbered e k))) t in let q = eqb-true _ _ p.0 in omega arith)) (λ t. omega arith)

module _ (c : Config) (hs : List Happened) (made : List Made) (sent : List Msg) (r : Register) (A : AppendsOnce hs) (P : PlansOnce made) (F : (l e b : ℕ) (d : Basis) → In (plan_of l e b d) made → PlanMade c hs sent made r l e b d) (last : FoundBelow made) (l : ℕ) where
  abbrev pub HeldSaid : Body → Type 0
  HeldSaid b = carried.HeldOk (Said hs made r) (TrimFine c hs sent r) (CloseFine c hs made sent r) (Reached r) (ShowFine c hs made sent r) (ReleaseFine c hs sent r) (SaidHere hs made r) (LngFine c hs sent r) l b

  abbrev pub HeldFine : List (ℕ × Held) → Type 0
  HeldFine ds = (h : ℕ × Held) → In h ds → HeldSaid h.1.body

  -- what an item says of its number
  abbrev pub ItemFine : ℕ → Item → Type 0
  ItemFine s (RecordHere p) = RecordAt c hs made sent r l s
  ItemFine s HoleHere = ClosedItem c hs made sent r l s Hole
  ItemFine s (BridgeTo last) = BridgeAt c hs made sent r l s last
  ItemFine s _ = Unit {0}

  pub record ReadFine (a : Read) : Type 0 where
    pub held : HeldFine a.reader.held
    pub items : (i : ℕ × Item) → In i a.items → ItemFine i.0 i.1

  by_page : (s : ℕ) (p : List ℕ) (clean : Bool) (e : Entry) → e.number ≡ s → e.what ≡ Rec p → ShowFine c hs made sent r l clean e → RecordAt c hs made sent r l s
  by_page s p true e n w h = inr (p, closed_item c hs made sent r l s (Rec p) e n w h)
  by_page s p false e n w h = inl (subst (Acknowledged c hs sent r l) n h)

  record_fine : (s : ℕ) (ds : List (ℕ × Held)) (p : List ℕ) → HeldFine ds → record_held s ds ≡ Some p → RecordAt c hs made sent r l s
  record_fine s ds p h e =
      let z = record_in s ds p e in let w = z.2 in
      let o = subst HeldSaid w.is_page (h z.0 z.1) in
      by_page s p w.clean w.entry w.number w.what (o.1 w.entry (page_told s (Rec p) z.0.1.body w refl))

  by_hole : (s : ℕ) (clean : Bool) (e : Entry) → e.number ≡ s → e.what ≡ Hole → ShowFine c hs made sent r l clean e → SaidHere hs made r l e.ballot e.number e.what → ClosedItem c hs made sent r l s Hole
  by_hole s true e n w h d = closed_item c hs made sent r l s Hole e n w h
  by_hole s false e n w h d = absurd (elim d.says [
    | inl o ↦ acked_no_hole c hs made sent r A P F last l e.ballot e.number h (subst (Says hs made l e.ballot e.number) w o)
    | inr o ↦ elim o [
      | inl k ↦ acked_no_hole c hs made sent r A P F last l (epoch_of e.number) e.number h (inl (subst (OwnSays hs l (epoch_of e.number) e.number) w k.good.says))
      | inr k ↦ acked_no_hole c hs made sent r A P F last l k.says.says.ballot e.number h (let z = k.says.says in inr (record { later = z.later; basis = z.basis; planned = z.planned; item = z.item ∙ ap Some w }))
    ]
  ])

  hole_fine : (s : ℕ) (ds : List (ℕ × Held)) → HeldFine ds → hole_held s ds ≡ true → ClosedItem c hs made sent r l s Hole
  hole_fine s ds h e =
      let z = hole_in s ds e in let w = z.2 in
      let o = subst HeldSaid w.is_page (h z.0 z.1) in
      by_hole s w.clean w.entry w.number w.what (o.1 w.entry (page_told s Hole z.0.1.body w refl)) (o.0 w.entry (page_told s Hole z.0.1.body w refl))

  by_end : (s e end : ℕ) (y : Summary) → CloseFine c hs made sent r l e y → end ≡ numbered e y.end → home_epoch end ≡ home_epoch s → end ≤ s → y.loss ≡ false → BridgeAt c hs made sent r l s (bridge_to s)
  by_end s e end y (t, inl z) q h le lo = let ee = z.0 in let ye = z.1 in let hn = home_numbered e y.end (omega arith) (omega arith) in let hh : home_epoch s ≡ e = sym h ∙ (ap home_epoch q ∙ hn) in
      record { epoch = e; upto = omega arith; past = inl z.0 }
  by_end s e end y (t, inr b) q h le lo =
      let k = plan_ends c hs made sent r A P F last l e y.ballot b.plan.basis b.plan.planned in let m = end_above_trim e b.plan.basis.digest in let ye = b.plan.end in
      let hn = home_numbered e y.end (omega arith) (omega arith) in let hh : home_epoch s ≡ e = sym h ∙ (ap home_epoch q ∙ hn) in
      record { epoch = e; upto = omega arith; past = inr (y, b, omega arith, lo) }

  bridge_fine : (s : ℕ) (ds : List (ℕ × Held)) → HeldFine ds → end_held s ds ≡ Some false → BridgeAt c hs made sent r l s (bridge_to s)
  bridge_fine s ds h e =
      let z = end_in s ds false e in
      let w = ended_at s false z.0.1.body z.2 in
      let o : carried.EndedOk (Said hs made r) (TrimFine c hs sent r) (CloseFine c hs made sent r) (Reached r) (ShowFine c hs made sent r) (ReleaseFine c hs sent r) (SaidHere hs made r) (LngFine c hs sent r) l w.from w.end false = subst HeldSaid w.is_end (h z.0 z.1) in
      by_end s (home_epoch w.from) w.end o.summary o.closed o.is w.home w.low (sym o.lossy)

  gives_fine : (a : Read) (i : Item) → ReadFine a → ItemFine a.reader.next i → ReadFine (gives a i)
  gives_fine a i g h = record {
    held = g.held;
    items = λ x j. elim (In-append x a.items _ j) [ inl k ↦ g.items x k | inr k ↦ (let z = only x (a.reader.next, i) k in subst (λ (y : ℕ × Item). ItemFine y.0 y.1) (sym z) h) ];
  }

  held_fine : (d : Reader) (y : ℕ) (b : Body) → HeldFine d.held → HeldSaid b → HeldFine (held_with d.held y b)
  held_fine d y b h o = cond_both (is_newer (find y d.held) (round_of b)) (put y (record { round = round_of b; body = b }) d.held) d.held HeldFine
      (λ t k i. elim (In_put y (record { round = round_of b; body = b }) d.held k i) [ inl q ↦ subst (λ (x : ℕ × Held). HeldSaid x.1.body) (sym q) o | inr j ↦ h k j ]) (λ t. h)

  pub fine_keeps : (looks : ℕ → View) (d : Reader) (y : ℕ) (b : Body) → HeldFine d.held → HeldSaid b → ReadKeeps looks d y b ReadFine
  fine_keeps looks d y b h o = let k = held_fine d y b h o in let start : ReadFine (nothing_read (heard d y b)) = record { held = k; items = λ i j. absurd j } in record {
    starts = start;
    ignored = λ u. record { held = h; items = λ i j. absurd j };
    loss = λ u n. gives_fine (nothing_read (record (heard d y b) { seen = Some (look_of looks d) })) LossHere (record { held = k; items = λ i j. absurd j }) tt;
    swapped = λ u n. record { held = dropped_held HeldFine (λ z i. absurd i) _ _ k; items = λ i j. absurd j };
    trim = λ a g n t. gives_fine a (TrimTo (trim_held a.reader.held)) g tt;
    record_there = λ a x g n t. gives_fine a (RecordHere x) g (record_fine a.reader.next a.reader.held x g.held t);
    hole_there = λ a g n t. gives_fine a HoleHere g (hole_fine a.reader.next a.reader.held g.held t);
    plug = λ a g n t. gives_fine a LossHere g tt;
    lossy_end = λ a g n t. gives_fine a (LossTo (bridge_to a.reader.next)) g tt;
    bridge = λ a g n t. gives_fine a (BridgeTo (bridge_to a.reader.next)) g (bridge_fine a.reader.next a.reader.held g.held t);
    confirm = λ a g n m t. record { held = dropped_held HeldFine (λ z i. absurd i) _ _ g.held; items = g.items };
    asks_all = λ a g t. record { held = dropped_held HeldFine (λ z i. absurd i) _ _ g.held; items = g.items };
    polls_on = λ a g t. record { held = dropped_held HeldFine (λ z i. absurd i) _ _ g.held; items = g.items };
  }

-- ---- lines ----

-- what the lines of a step say, of the log of the reader that they name
pub record ItemsTold (c : Config) (hs : List Happened) (made : List Made) (sent : List Msg) (r : Register) (s : State) (ls : List Line) : Type 0 where
  pub records : (name : List ℕ) (n : ℕ) (p : List ℕ) → In (lines.Record name n p) ls → (d : Reader) × (find_named name s.readers ≡ Some d) × RecordAt c hs made sent r d.log n
  pub batches : (name : List ℕ) (n index : ℕ) (m : List ℕ) → In (lines.BatchMessage name n index m) ls → (d : Reader) × (find_named name s.readers ≡ Some d) × RecordAt c hs made sent r d.log n
  pub holes : (name : List ℕ) (low high : ℕ) → In (lines.Gap name gaps.Hole low high) ls → (d : Reader) × (find_named name s.readers ≡ Some d) × (low ≡ high) × ClosedItem c hs made sent r d.log low Hole
  pub bridges : (name : List ℕ) (low high : ℕ) → In (lines.Gap name gaps.Bridge low high) ls → (d : Reader) × (find_named name s.readers ≡ Some d) × BridgeAt c hs made sent r d.log low high

lower_bridge : (c : Config) (hs : List Happened) (made : List Made) (sent : List Msg) (r : Register) (l low high last : ℕ) → high ≤ last → BridgeAt c hs made sent r l low last → BridgeAt c hs made sent r l low high
lower_bridge c hs made sent r l low high last h b = record { epoch = b.epoch; upto = let u = b.upto in omega arith; past = b.past }

pub item_lines_told : (c : Config) (hs : List Happened) (made : List Made) (sent : List Msg) (r : Register) (s : State) (A : AppendsOnce hs) (P : PlansOnce made) (F : (l e b : ℕ) (d : Basis) → In (plan_of l e b d) made → PlanMade c hs sent made r l e b d) (last : FoundBelow made)
    (style : Style) (name : List ℕ) (d : Reader) (until : ℕ) (is : List (ℕ × Item)) → find_named name s.readers ≡ Some d → ((i : ℕ × Item) → In i is → ItemFine c hs made sent r A P F last d.log i.0 i.1) → ItemsTold c hs made sent r s (Step.item_lines style name until is)
item_lines_told c hs made sent r s A P F last style name d until is f h = record {
  records = λ a n p j. let o = one_of style name until is (lines.Record a n p) (λ b k v m q. cc) j in rec_at o.item.0 o.item.1 a n p (h o.item o.there) o.line;
  batches = λ a n index m j. let o = message_in style name until is a n index m j in (d, subst (λ k. find_named k s.readers ≡ Some d) (sym o.whose) f, h (n, RecordHere o.payload) o.there);
  holes = λ a low high j. let o = one_of style name until is (lines.Gap a gaps.Hole low high) (λ b k v m q. cc) j in hole_at o.item.0 o.item.1 a low high (h o.item o.there) o.line;
  bridges = λ a low high j. let o = one_of style name until is (lines.Gap a gaps.Bridge low high) (λ b k v m q. cc) j in bridge_at o.item.0 o.item.1 a low high (h o.item o.there) o.line;
} where
  rec_at : (s0 : ℕ) (x : Item) (a : List ℕ) (n : ℕ) (p : List ℕ) → ItemFine c hs made sent r A P F last d.log s0 x → lines.Record a n p ≡ Step.item_line name s0 until x → (d : Reader) × (find_named a s.readers ≡ Some d) × RecordAt c hs made sent r d.log n
  rec_at s0 (RecordHere q) a n p g e = let x : a ≡ name = cc in let y : n ≡ s0 = cc in (d, subst (λ k. find_named k s.readers ≡ Some d) (sym x) f, subst (RecordAt c hs made sent r d.log) (sym y) g)
  rec_at s0 (TrimTo last) a n p g e = absurd cc
  rec_at s0 HoleHere a n p g e = absurd cc
  rec_at s0 (BridgeTo last) a n p g e = absurd cc
  rec_at s0 LossHere a n p g e = absurd cc
  rec_at s0 (LossTo to) a n p g e = absurd cc

  hole_at : (s0 : ℕ) (x : Item) (a : List ℕ) (low high : ℕ) → ItemFine c hs made sent r A P F last d.log s0 x → lines.Gap a gaps.Hole low high ≡ Step.item_line name s0 until x → (d : Reader) × (find_named a s.readers ≡ Some d) × (low ≡ high) × ClosedItem c hs made sent r d.log low Hole
  hole_at s0 HoleHere a low high g e = let x : a ≡ name = cc in let y : low ≡ s0 = cc in let z : high ≡ s0 = cc in (d, subst (λ k. find_named k s.readers ≡ Some d) (sym x) f, y ∙ sym z, subst (λ k. ClosedItem c hs made sent r d.log k Hole) (sym y) g)
  hole_at s0 (RecordHere q) a low high g e = absurd cc
  hole_at s0 (TrimTo last) a low high g e = absurd cc
  hole_at s0 (BridgeTo last) a low high g e = absurd cc
  hole_at s0 LossHere a low high g e = absurd cc
  hole_at s0 (LossTo to) a low high g e = absurd cc

  bridge_at : (s0 : ℕ) (x : Item) (a : List ℕ) (low high : ℕ) → ItemFine c hs made sent r A P F last d.log s0 x → lines.Gap a gaps.Bridge low high ≡ Step.item_line name s0 until x → (d : Reader) × (find_named a s.readers ≡ Some d) × BridgeAt c hs made sent r d.log low high
  bridge_at s0 (BridgeTo last) a low high g e = let x : a ≡ name = cc in let y : low ≡ s0 = cc in let z : high ≡ (if nat_lt until last then until else last) = cc in
      (d, subst (λ k. find_named k s.readers ≡ Some d) (sym x) f, subst (λ k. BridgeAt c hs made sent r d.log k high) (sym y) (lower_bridge c hs made sent r d.log s0 high last (cond_both (nat_lt until last) until last (λ k. high ≡ k → high ≤ last) (λ t w. let v = ltb-true until last t in omega arith) (λ t w. omega arith) z) g))
  bridge_at s0 (RecordHere q) a low high g e = absurd cc
  bridge_at s0 (TrimTo last) a low high g e = absurd cc
  bridge_at s0 HoleHere a low high g e = absurd cc
  bridge_at s0 LossHere a low high g e = absurd cc
  bridge_at s0 (LossTo to) a low high g e = absurd cc
