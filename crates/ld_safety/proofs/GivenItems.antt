-- Readers get only records that were appended, and trims up to points that were issued.
use Rattle.std.proofs.Common.{◌≡◌, ◌∙◌, ◌⊎◌, ◌≤◌, ◌<◌, ℕ, ◌+◌, max, inl, inr, refl, ap, sym, subst, Bool, true, if◌then◌else◌, nat_lt, ◌==◌, List, [], ◌∷◌, ◌++◌, length, filter_map, append_assoc, Option, Some, None, arith, slice_get, false}
use Rattle.std.proofs.lemmas.Bool.{cases_order, ltb-true, eqb-true}
use Rattle.std.proofs.lemmas.Grind.{flat_map-append}
use Rattle.ld_table.specs.Table.{find, put}
use Rattle.ld_table.specs.Named.{find_named}
use Rattle.ld_table.specs.Words.{or_else}
use Rattle.ld_config.specs.declared.config.Config.{Config}
use Rattle.ld_schedule.specs.declared.event.Event.{Event}
use Rattle.ld_transcript.specs.declared.line.Line.{Line}
use Rattle.ld_transcript.specs.declared.line.Line.TheVariants as lines
use Rattle.ld_transcript.specs.declared.line.GapKind.TheVariants as gaps
use Rattle.ld_msg.specs.declared.msg.What.{What}
use Rattle.ld_msg.specs.declared.msg.What.TheVariants.{Rec, Hole, Bridge, Plug, Withheld}
use Rattle.ld_msg.specs.declared.msg.Entry.{Entry}
use Rattle.ld_msg.specs.declared.msg.Msg.{Msg}
use Rattle.ld_msg.specs.declared.msg.Who.TheVariants as whos
use Rattle.ld_msg.specs.declared.msg.Body.{Body}
use Rattle.ld_msg.specs.declared.msg.Body.TheVariants as bodies
use Rattle.ld_msg.specs.Reading.{Held, Item, TrimTo, RecordHere, HoleHere, BridgeTo, LossHere, trim_held, trim_told, record_held, record_of, page_at, entry_at, LossTo, bridge_to}
use Rattle.ld_msg.specs.Register.{View}
use Rattle.ld_machine.specs.Config.{looks_at}
use Rattle.ld_msg.specs.Reader.{Reader, Read, heard, held_with, is_newer, round_of, on_answer, gives, nothing_read, look_of}
use Rattle.ld_machine.specs.State.{State}
use Rattle.ld_machine.specs.Facts.{Happened, Opening, opening, opening_of, Interval, interval_of, intervals, Writes, WritesBatch, Appends, Issues, ReadsLog, log_activated}
use Rattle.ld_machine.specs.Safe.{TilesFrom, RecordsWereAppended, TrimsWereIssued, BatchesWereAppended}
use Rattle.ld_machine.specs.World.{World, In}
use Rattle.ld_machine.specs.Run.{history}
use Rattle.ld_machine.specs.Step as Step
use Rattle.ld_safety.proofs.Lists.{Some_inj, not_none, cond_both, branch, In-append, only, first_left, slice_get_left, slice_get_below, In-slice_get}
use Rattle.ld_safety.proofs.Members.{In_put}
use Rattle.ld_safety.proofs.Traces.{Moment, step_happened, at_step}
use Rattle.ld_safety.proofs.Events.{dispatch, Reading, is_quiet}
use Rattle.ld_safety.proofs.Steps.{writes_before, filter_finish, finish_ends}
use Rattle.ld_safety.proofs.ItemLines.{line_cases}
use Rattle.ld_safety.proofs.Lines.{Group, OfItems, OfMessages, group, AllOf, line_of}
use Rattle.ld_safety.proofs.ReaderSteps.{dropped_held, ReadKeeps, answered}
use Rattle.ld_safety.proofs.Tiles.{Got, TilesTo, AllGot, Reads, got_of, tiles_kept, tiles_part, items_tile, plain_interval}
use Rattle.ld_safety.proofs.Base.{Base}
use Rattle.ld_safety.proofs.Given.{AnyEpoch, AnyShown, AnyReleased, SmallGood, AppendedBy, GivenEntry, GivenTrim, GivenSummary}
use Rattle.ld_safety.proofs.GivenSteps.{Given}
use Rattle.ld_safety.proofs.Carried as carried
use Rattle.ld_msg.specs.declared.style.Style.{Style}
use Rattle.ld_batch.specs.Batch.{Messages, unpacked}
use Rattle.ld_machine.specs.Invariant.{is_withheld}
use Rattle.ld_safety.proofs.Withheld.{told_in, told_what}
use Rattle.ld_safety.proofs.Batches.{RunAt, one_of, message_in, message_run, none_given}
use Rattle.ld_machine.specs.Calm as Calm
use Rattle.ld_machine.specs.Calm.{Move}

-- ---- what is held ----
pub entry_found : (s : ℕ) (es : List Entry) (w : What) → entry_at s es ≡ Some w → (e : Entry) × In e es × (e.number ≡ s) × (e.what ≡ w)
entry_found s [] w h = absurd (not_none h)
entry_found s (e ∷ es) w h = elim (branch (e.number == s) (Some e.what) (entry_at s es) (Some w) h) [
  | inl t ↦ (e, inl refl, eqb-true _ _ t.0, Some_inj t.1)
  | inr t ↦ let r = entry_found s es w t.1 in (r.0, inr r.1, r.2, r.3)
]

-- a page that has a record or hole at the number
pub record PageWith (s : ℕ) (w : What) (b : Body) : Type 0 where
  pub round : ℕ
  pub from : ℕ
  pub upto : ℕ
  pub clean : Bool
  pub entries : List Entry
  pub is_page : b ≡ bodies.ReadPage round from upto clean entries
  pub entry : Entry
  pub there : In entry entries
  pub number : entry.number ≡ s
  pub what : entry.what ≡ w

pub page_with : (s : ℕ) (w : What) (b : Body) → page_at s b ≡ Some w → PageWith s w b
page_with s w (bodies.ReadPage round from upto clean entries) h = let r = entry_found s entries w h in record { round = round; from = from; upto = upto; clean = clean; entries = entries; is_page = refl; entry = r.0; there = r.1; number = r.2; what = r.3 }
page_with s w _ h = absurd (not_none h)

-- its entry says what it holds, where it isn't withheld
pub page_told : (s : ℕ) (w : What) (b : Body) (p : PageWith s w b) → is_withheld w ≡ false → In p.entry (told_in p.entries)
page_told s w b p h = told_what p.entry p.entries w p.there p.what h

record_of_some : (o : Option What) (p : List ℕ) → record_of o ≡ Some p → o ≡ Some (Rec p)
record_of_some (Some (Rec q)) p h = ap (λ x. Some (Rec x)) (Some_inj h)
record_of_some (Some Hole) p h = absurd (not_none h)
record_of_some (Some Bridge) p h = absurd (not_none h)
record_of_some (Some Plug) p h = absurd (not_none h)
record_of_some (Some Withheld) p h = absurd (not_none h)
record_of_some None p h = absurd (not_none h)

or_else_of : {X : Type 0} (o p : Option X) (x : X) → or_else o p ≡ Some x → (o ≡ Some x) ⊎ (p ≡ Some x)
or_else_of None p x h = inr h
or_else_of (Some y) p x h = inl h

pub record_in : (s : ℕ) (hs : List (ℕ × Held)) (p : List ℕ) → record_held s hs ≡ Some p → (h : ℕ × Held) × In h hs × PageWith s (Rec p) h.1.body
record_in s [] p h = absurd (not_none h)
record_in s (x ∷ hs) p h = elim (or_else_of (record_of (page_at s x.1.body)) (record_held s hs) p h) [
  | inl a ↦ (x, inl refl, page_with s (Rec p) x.1.body (record_of_some _ p a))
  | inr a ↦ let r = record_in s hs p a in (r.0, inr r.1, r.2)
]

-- ---- items ----
module _ (hs : List Happened) (l : ℕ) where
  HeldGiven : List (ℕ × Held) → Type 0
  HeldGiven ds = (h : ℕ × Held) → In h ds → carried.HeldOk (GivenEntry hs) (GivenTrim hs) (GivenSummary hs) AnyEpoch AnyShown AnyReleased (GivenEntry hs) SmallGood l h.1.body

  -- an item that a reader gets
  abbrev ItemGiven : ℕ → Item → Type 0
  ItemGiven s (TrimTo last) = (k t : ℕ) × (last ≤ t) × Issues hs l t k
  ItemGiven s (RecordHere p) = AppendedBy hs l s p
  ItemGiven s _ = Unit {0}

  record ReadGiven (a : Read) : Type 0 where
    held : HeldGiven a.reader.held
    positive : 0 < a.reader.next
    items : (i : ℕ × Item) → In i a.items → ItemGiven i.0 i.1

  record_given : (s : ℕ) (ds : List (ℕ × Held)) (p : List ℕ) → HeldGiven ds → record_held s ds ≡ Some p → AppendedBy hs l s p
  unfolding HeldGiven
  record_given s ds p h e =
      let r = record_in s ds p e in let w = r.2 in
      let o : carried.EntriesOk (GivenEntry hs) (GivenTrim hs) (GivenSummary hs) AnyEpoch AnyShown AnyReleased (GivenEntry hs) SmallGood l (told_in w.entries) = (subst (carried.HeldOk (GivenEntry hs) (GivenTrim hs) (GivenSummary hs) AnyEpoch AnyShown AnyReleased (GivenEntry hs) SmallGood l) w.is_page (h r.0 r.1)).0 in
      subst (λ n. AppendedBy hs l n p) w.number ((o w.entry (page_told s (Rec p) r.0.1.body w refl)).appended p w.what)

  max_given : (a b : ℕ) → GivenTrim hs l a → GivenTrim hs l b → GivenTrim hs l (max a b)
  max_given a b x y = elim (cases_order a b) [
    | inl e ↦ subst (GivenTrim hs l) (let z : b ≡ max a b = omega arith in z) y
    | inr (inl e) ↦ subst (GivenTrim hs l) (let z : b ≡ max a b = omega arith in z) y
    | inr (inr e) ↦ subst (GivenTrim hs l) (let z : a ≡ max a b = omega arith in z) x
  ]

  told_given : (b : Body) → carried.HeldOk (GivenEntry hs) (GivenTrim hs) (GivenSummary hs) AnyEpoch AnyShown AnyReleased (GivenEntry hs) SmallGood l b → GivenTrim hs l (trim_told b)
  told_given (bodies.ReadTrim round from t) h = h
  told_given _ h = inl refl

  trim_held_given : (ds : List (ℕ × Held)) → HeldGiven ds → GivenTrim hs l (trim_held ds)
  unfolding HeldGiven
  trim_held_given [] h = inl refl
  trim_held_given (d ∷ ds) h = max_given _ _ (told_given d.1.body (h d (inl refl))) (trim_held_given ds (λ x i. h x (inr i)))

  gives_given : (a : Read) (i : Item) → ReadGiven a → ItemGiven a.reader.next i → ReadGiven (gives a i)
  gives_given a i g h = record {
    held = g.held;
    positive = omega arith;
    items = λ x j. elim (In-append x a.items _ j) [ inl k ↦ g.items x k | inr k ↦ (let z = only x (a.reader.next, i) k in subst (λ (y : ℕ × Item). ItemGiven y.0 y.1) (sym z) h) ];
  }

  trim_item : (s : ℕ) (ds : List (ℕ × Held)) → HeldGiven ds → 0 < s → s ≤ trim_held ds → ItemGiven s (TrimTo (trim_held ds))
  trim_item s ds h p q = elim (trim_held_given ds h) [ inl e ↦ absurd (omega arith) | inr e ↦ (e.0, e.1, (let z = e.2 in omega arith), e.3) ]

  held_given : (d : Reader) (y : ℕ) (b : Body) → HeldGiven d.held → carried.HeldOk (GivenEntry hs) (GivenTrim hs) (GivenSummary hs) AnyEpoch AnyShown AnyReleased (GivenEntry hs) SmallGood l b → HeldGiven (held_with d.held y b)
  unfolding HeldGiven
  held_given d y b h o = cond_both (is_newer (find y d.held) (round_of b)) (put y (record { round = round_of b; body = b }) d.held) d.held (λ x. (k : ℕ × Held) → In k x → carried.HeldOk (GivenEntry hs) (GivenTrim hs) (GivenSummary hs) AnyEpoch AnyShown AnyReleased (GivenEntry hs) SmallGood l k.1.body)
      (λ t k i. elim (In_put y (record { round = round_of b; body = b }) d.held k i) [ inl q ↦ subst (λ (x : ℕ × Held). carried.HeldOk (GivenEntry hs) (GivenTrim hs) (GivenSummary hs) AnyEpoch AnyShown AnyReleased (GivenEntry hs) SmallGood l x.1.body) (sym q) o | inr j ↦ h k j ]) (λ t. h)

  no_held : HeldGiven []
  unfolding HeldGiven
  no_held h i = absurd i

  given_keeps : (looks : ℕ → View) (d : Reader) (y : ℕ) (b : Body) → 0 < d.next → HeldGiven d.held → carried.HeldOk (GivenEntry hs) (GivenTrim hs) (GivenSummary hs) AnyEpoch AnyShown AnyReleased (GivenEntry hs) SmallGood l b → ReadKeeps looks d y b ReadGiven
  given_keeps looks d y b p h o = let k = held_given d y b h o in let start : ReadGiven (nothing_read (heard d y b)) = record { held = k; positive = p; items = λ i j. absurd j } in record {
    starts = start;
    ignored = λ u. record { held = h; positive = p; items = λ i j. absurd j };
    loss = λ u n. gives_given (nothing_read (record (heard d y b) { seen = Some (look_of looks d) })) LossHere (record { held = k; positive = p; items = λ i j. absurd j }) tt;
    swapped = λ u n. record { held = dropped_held HeldGiven no_held _ _ k; positive = p; items = λ i j. absurd j };
    trim = λ a g n t. gives_given a (TrimTo (trim_held a.reader.held)) g (trim_item a.reader.next a.reader.held g.held g.positive t);
    record_there = λ a x g n t. gives_given a (RecordHere x) g (record_given a.reader.next a.reader.held x g.held t);
    hole_there = λ a g n t. gives_given a HoleHere g tt;
    plug = λ a g n t. gives_given a LossHere g tt;
    bridge = λ a g n t. gives_given a (BridgeTo (bridge_to a.reader.next)) g tt;
    lossy_end = λ a g n t. gives_given a (LossTo (bridge_to a.reader.next)) g tt;
    confirm = λ a g n m t. record { held = dropped_held HeldGiven no_held _ _ g.held; positive = g.positive; items = g.items };
    asks_all = λ a g t. record { held = dropped_held HeldGiven no_held _ _ g.held; positive = g.positive; items = g.items };
    polls_on = λ a g t. record { held = dropped_held HeldGiven no_held _ _ g.held; positive = g.positive; items = g.items };
  }

-- ---- the lines of a step ----

-- a message of a batch that was appended, and whose messages are a run where what the lines give tiles
pub record MessageGiven (hs : List Happened) (s : State) (ls : List Line) (name : List ℕ) (n : ℕ) : Type 0 where
  pub reader : Reader
  pub named : find_named name s.readers ≡ Some reader
  pub payload : List ℕ
  pub appended : AppendedBy hs reader.log n payload
  pub messages : List (List ℕ)
  pub reads : unpacked payload ≡ Messages messages
  pub run : (last next : ℕ) → TilesFrom last next (filter_map (interval_of name) ls) → RunAt ls name n messages

pub record LinesGiven (hs : List Happened) (s : State) (ls : List Line) : Type 0 where
  pub records : (name : List ℕ) (n : ℕ) (p : List ℕ) → In (lines.Record name n p) ls → (d : Reader) × (find_named name s.readers ≡ Some d) × AppendedBy hs d.log n p
  pub batches : (name : List ℕ) (n index : ℕ) (m : List ℕ) → In (lines.BatchMessage name n index m) ls → MessageGiven hs s ls name n
  pub trims : (name : List ℕ) (low high : ℕ) → In (lines.Gap name gaps.Trim low high) ls → (d : Reader) × (find_named name s.readers ≡ Some d) × ((k t : ℕ) × (high ≤ t) × Issues hs d.log t k)

other_lines : (hs : List Happened) (s : State) (g : Group) (ls : List Line) → (g ≡ OfItems → ⊥) → AllOf g ls → LinesGiven hs s ls
other_lines hs s g ls n a = record { records = λ name m p i. absurd (n (sym (a _ i))); batches = λ name m j p i. absurd (n (sym (a _ i))); trims = λ name low high i. absurd (n (sym (a _ i))) }

item_lines_given : (hs : List Happened) (s : State) (style : Style) (name : List ℕ) (d : Reader) (until : ℕ) (is : List (ℕ × Item)) → find_named name s.readers ≡ Some d → ((i : ℕ × Item) → In i is → ItemGiven hs d.log i.0 i.1) → LinesGiven hs s (Step.item_lines style name until is)
item_lines_given hs s style name d until is f h = record {
  records = λ a n p j. let o = one_of style name until is (lines.Record a n p) (λ b k v m q. cc) j in rec_at o.item.0 o.item.1 a n p (h o.item o.there) o.line;
  batches = λ a n index m j. let o = message_in style name until is a n index m j in
      record { reader = d; named = subst (λ k. find_named k s.readers ≡ Some d) (sym o.whose) f; payload = o.payload; appended = h (n, RecordHere o.payload) o.there; messages = o.messages; reads = o.reads; run = λ last next t. message_run style name until last next is a n index m o j t };
  trims = λ a low high j. let o = one_of style name until is (lines.Gap a gaps.Trim low high) (λ b k v m q. cc) j in trim_at o.item.0 o.item.1 a low high (h o.item o.there) o.line;
} where
  rec_at : (s0 : ℕ) (x : Item) (a : List ℕ) (n : ℕ) (p : List ℕ) → ItemGiven hs d.log s0 x → lines.Record a n p ≡ Step.item_line name s0 until x → (d : Reader) × (find_named a s.readers ≡ Some d) × AppendedBy hs d.log n p
  rec_at s0 (RecordHere q) a n p g e = let x : a ≡ name = cc in let y : n ≡ s0 = cc in let z : p ≡ q = cc in (d, subst (λ k. find_named k s.readers ≡ Some d) (sym x) f, subst (λ k. AppendedBy hs d.log k p) (sym y) (subst (λ k. AppendedBy hs d.log s0 k) (sym z) g))
  rec_at s0 (TrimTo last) a n p g e = absurd cc
  rec_at s0 HoleHere a n p g e = absurd cc
  rec_at s0 (BridgeTo last) a n p g e = absurd cc
  rec_at s0 LossHere a n p g e = absurd cc
  rec_at s0 (LossTo last) a n p g e = absurd cc

  trim_at : (s0 : ℕ) (x : Item) (a : List ℕ) (low high : ℕ) → ItemGiven hs d.log s0 x → lines.Gap a gaps.Trim low high ≡ Step.item_line name s0 until x → (d : Reader) × (find_named a s.readers ≡ Some d) × ((k t : ℕ) × (high ≤ t) × Issues hs d.log t k)
  trim_at s0 (TrimTo last) a low high g e = let x : a ≡ name = cc in let y : high ≡ (if nat_lt until last then until else last) = cc in (
    d,
    subst (λ k. find_named k s.readers ≡ Some d) (sym x) f,
    (g.0, g.1, cond_both (nat_lt until last) until last (λ z. high ≡ z → high ≤ g.1) (λ t w. let v = ltb-true until last t in let u = g.2 in omega arith) (λ t w. let u = g.2 in omega arith) y, g.3),
  )
  trim_at s0 (RecordHere q) a low high g e = absurd cc
  trim_at s0 HoleHere a low high g e = absurd cc
  trim_at s0 (BridgeTo last) a low high g e = absurd cc
  trim_at s0 LossHere a low high g e = absurd cc
  trim_at s0 (LossTo last) a low high g e = absurd cc

quiet_lines_given : (hs : List Happened) (s : State) (ls : List Line) → ((x : Line) → In x ls → is_quiet x ≡ true) → LinesGiven hs s ls
quiet_lines_given hs s ls q = record { records = λ name n p i. absurd (let z = q _ i in cc); batches = λ name n j p i. absurd (let z = q _ i in cc); trims = λ name low high i. absurd (let z = q _ i in cc) }

tiles_up : (until next end : ℕ) (is : List Interval) → TilesTo until next is end → next ≤ end
tiles_up until next end [] t = omega arith
tiles_up until next end (i ∷ is) t = let r = tiles_up until (i.high + 1) end is t.3 in let a = t.0 in let b = t.1 in omega arith

module _ (c : Config) (hs : List Happened) (w : World) (e : Move) (B : Base c hs w) (G : Given c hs w.state) (A : AllGot c hs w) where
  positive : (name : List ℕ) (d : Reader) → find_named name w.state.readers ≡ Some d → 0 < d.next
  positive name d f = let g = got_of c hs w A name d f in let t = tiles_up d.until g.open_as.from d.next _ g.tiles in elim (cases_order g.open_as.from 0) [
    | inl z ↦ absurd (g.start z)
    | inr (inl z) ↦ absurd (omega arith)
    | inr (inr z) ↦ omega arith
  ]

  reads_given : (f : List ℕ) (name : List ℕ) (d : Reader) (m : Msg) → In m w.state.network.sent → m.to ≡ whos.Reader d.number → Reading w.state name d
      → LinesGiven hs w.state (Step.item_lines (on_answer (looks_at c w.state.register d.log) d (Step.sender_node m.from) m.body).reader.style name (on_answer (looks_at c w.state.register d.log) d (Step.sender_node m.from) m.body).reader.until (on_answer (looks_at c w.state.register d.log) d (Step.sender_node m.from) m.body).items)
  unfolding HeldGiven
  reads_given f name d m i t v =
      let lg : d.log ≡ m.log = B.1.1.logs m d.number name d i (inl t) v.named refl in
      let y = Step.sender_node m.from in
      let o : carried.HeldOk (GivenEntry hs) (GivenTrim hs) (GivenSummary hs) AnyEpoch AnyShown AnyReleased (GivenEntry hs) SmallGood d.log m.body = subst (λ k. carried.HeldOk (GivenEntry hs) (GivenTrim hs) (GivenSummary hs) AnyEpoch AnyShown AnyReleased (GivenEntry hs) SmallGood k m.body) (sym lg) (carried.held_of (GivenEntry hs) (GivenTrim hs) (GivenSummary hs) AnyEpoch AnyShown AnyReleased (GivenEntry hs) SmallGood m.log m.from m.body (G.sent m i).0) in
      let k = answered (looks_at c w.state.register d.log) d y m.body (ReadGiven hs d.log) (given_keeps hs d.log (looks_at c w.state.register d.log) d y m.body (positive name d v.named) (G.readers name d v.named) o) in
      item_lines_given hs w.state _ name d _ (on_answer (looks_at c w.state.register d.log) d y m.body).items v.named k.items

  pub lines_given : LinesGiven hs w.state (Calm.moves c w.state e).lines
  lines_given = dispatch c w.state e (λ d m. LinesGiven hs w.state d.lines) B.0.0 (line_cases c w.state e (LinesGiven hs w.state) (other_lines hs w.state) (λ f name d m i t v o. reads_given f name d m i t v) (quiet_lines_given hs w.state))

-- ---- the laws ----

pub appends_before : (hs gs : List Happened) (l n k : ℕ) (p : List ℕ) → Appends hs l n p k → Appends (hs ++ gs) l n p k
appends_before hs gs l n k p a = record { name = a.name; here = a.here; at = slice_get_left a.here hs gs k a.at; asked = a.asked; told = writes_before hs gs k _ a.told; of_log = first_left (λ (h : Happened). log_activated a.name h.lines h.event) hs gs l a.of_log }

pub issues_before : (hs gs : List Happened) (l t k : ℕ) → Issues hs l t k → Issues (hs ++ gs) l t k
issues_before hs gs l t k a = record { name = a.name; told = writes_before hs gs k _ a.told; of_log = first_left (λ (h : Happened). log_activated a.name h.lines h.event) hs gs l a.of_log }

-- a line of a run, with the moment before its step
pub record LineAt (c : Config) (P : List Happened → World → Type 0) (hs : List Happened) (k : ℕ) (x : Line) : Type 0 where
  pub before : List Happened
  pub after : List Happened
  pub world : World
  pub move : Move
  pub holds : P before world
  pub split : hs ≡ before ++ after
  pub place : length before ≡ k
  pub there : In x (Calm.moves c world.state move).lines
  pub here : Happened
  pub rest : List Happened
  pub at : slice_get hs k ≡ Some here
  pub is : here ≡ step_happened c world.state move
  pub tail : after ≡ here ∷ rest

pub line_at : (c : Config) (P : List Happened → World → Type 0) (es : List Event) (k : ℕ) (x : Line) → ((j : ℕ) (h : Happened) → slice_get (history c es) j ≡ Some h → Moment c P (history c es) j h) → (group x ≡ OfMessages → ⊥) → Writes (history c es) k x → LineAt c P (history c es) k x
line_at c P es k x M n w = let m = M k w.0 w.1 in record {
  before = m.before;
  after = w.0 ∷ m.after;
  world = m.world;
  move = m.move;
  holds = m.holds;
  split = m.split;
  place = m.place;
  there = line_of (Calm.moves c m.world.state m.move) x n (subst (λ (h : Happened). In x h.lines) m.is (In-slice_get x w.0.lines w.2 w.3));
  here = w.0;
  rest = m.after;
  at = w.1;
  is = m.is;
  tail = refl;
}

-- a reader that was there is of the log that it was opened for
pub same_log : (c : Config) (before after hs : List Happened) (l : ℕ) (name : List ℕ) (d : Reader) → hs ≡ before ++ after → Got c before name d → ReadsLog c hs l name → d.log ≡ l
same_log c before after hs l name d s g r =
    let o : opening c name hs ≡ Some g.open_as = subst (λ (x : List Happened). opening c name x ≡ Some g.open_as) (sym s) (first_left (λ (h : Happened). opening_of c name h.lines h.event) before after g.open_as g.is) in
    let q : r.0 ≡ g.open_as = Some_inj (sym r.1 ∙ o) in sym g.log ∙ (ap (λ (x : Opening). x.log) (sym q) ∙ r.2)

module _ (c : Config) (es : List Event) where
  pub records : RecordsWereAppended c (history c es)
  records l n k p g =
      let a = line_at c (Reads c) es k _ (at_step c (Reads c) (tiles_kept c) es) (λ h. cc) g.told in
      let x = (lines_given c a.before a.world a.move a.holds.0.0 a.holds.0.1 a.holds.1).records g.name n p a.there in
      let lg = same_log c a.before a.after (history c es) l g.name x.0 a.split (got_of c a.before a.world a.holds.1 g.name x.0 x.1) g.of_log in
      let y : AppendedBy a.before l n p = subst (λ k. AppendedBy a.before k n p) lg x.2 in
      let b = slice_get_below y.1.here a.before y.0 y.1.at in let z = a.place in
      (y.0, omega arith, subst (λ (hs : List Happened). Appends hs l n p y.0) (sym a.split) (appends_before a.before a.after l n y.0 p y.1))

  -- what a step gives a reader tiles
  step_tiles : (k : ℕ) (x : Line) (name : List ℕ) (o : Opening) (a : LineAt c (Reads c) (history c es) k x) → opening c name (history c es) ≡ Some o → (low : ℕ) × TilesFrom o.until low (filter_map (interval_of name) (Calm.moves c a.world.state a.move).lines)
  step_tiles k x name o a f =
      let t = subst (λ (hs : List Happened). TilesFrom o.until o.from (intervals name hs)) (a.split ∙ ap (λ (hs : List Happened). a.before ++ hs) a.tail) (items_tile c es name o f) in
      let p = tiles_part o.until o.from (intervals name a.before) (filter_map (interval_of name) a.here.lines) (intervals name a.rest) (subst (λ is. TilesFrom o.until o.from is) (flat_map-append (λ (h : Happened). filter_map (interval_of name) h.lines) a.before (a.here ∷ a.rest)) t) in
      (p.0, subst (λ is. TilesFrom o.until p.0 is) (ap (λ (h : Happened). filter_map (interval_of name) h.lines) a.is ∙ filter_finish (interval_of name) (plain_interval name) (Calm.moves c a.world.state a.move)) p.1)

  -- the step writes the run, and only plain lines behind the event's own
  step_writes : (k n index : ℕ) (name m : List ℕ) (ms : List (List ℕ)) (a : LineAt c (Reads c) (history c es) k (lines.BatchMessage name n index m)) → RunAt (Calm.moves c a.world.state a.move).lines name n ms → WritesBatch (history c es) k name n ms
  step_writes k n index name m ms a r =
      let e = finish_ends (Calm.moves c a.world.state a.move) _ a.there in record {
        here = a.here;
        at = a.at;
        before = r.before;
        after = r.after ++ e.rest;
        run = ap (λ (h : Happened). h.lines) a.is ∙ (e.is ∙ (ap (λ ls. ls ++ e.rest) r.is ∙ (append_assoc r.before (Step.message_lines_from name n 0 ms ++ r.after) e.rest ∙ ap (λ ls. r.before ++ ls) (append_assoc (Step.message_lines_from name n 0 ms) r.after e.rest))));
        alone = none_given name n (r.before ++ (r.after ++ e.rest)) (λ i o j. elim (In-append _ r.before (r.after ++ e.rest) j) [
          | inl x ↦ r.none_before i o x
          | inr x ↦ elim (In-append _ r.after e.rest x) [ inl y ↦ r.none_after i o y | inr y ↦ absurd (let z = e.plain _ y in cc) ]
        ]);
      }

  -- the messages that a step gives are those of the payload
  pub batches : BatchesWereAppended c (history c es)
  batches l n k index m g =
      let a = line_at c (Reads c) es k _ (at_step c (Reads c) (tiles_kept c) es) (λ h. cc) g.told in
      let x = (lines_given c a.before a.world a.move a.holds.0.0 a.holds.0.1 a.holds.1).batches g.name n index m a.there in
      let lg = same_log c a.before a.after (history c es) l g.name x.reader a.split (got_of c a.before a.world a.holds.1 g.name x.reader x.named) g.of_log in
      let y : AppendedBy a.before l n x.payload = subst (λ k. AppendedBy a.before k n x.payload) lg x.appended in
      let t = step_tiles k _ g.name g.of_log.0 a g.of_log.1 in
      let b = slice_get_below y.1.here a.before y.0 y.1.at in let u = a.place in
      (y.0, x.payload, x.messages, omega arith, x.reads, subst (λ (hs : List Happened). Appends hs l n x.payload y.0) (sym a.split) (appends_before a.before a.after l n y.0 x.payload y.1), step_writes k n index g.name m x.messages a (x.run g.of_log.0.until t.0 t.1))

  pub trims : TrimsWereIssued c (history c es)
  trims l low high k g =
      let a = line_at c (Reads c) es k _ (at_step c (Reads c) (tiles_kept c) es) (λ h. cc) g.told in
      let x = (lines_given c a.before a.world a.move a.holds.0.0 a.holds.0.1 a.holds.1).trims g.name low high a.there in
      let lg = same_log c a.before a.after (history c es) l g.name x.0 a.split (got_of c a.before a.world a.holds.1 g.name x.0 x.1) g.of_log in
      let y : Issues a.before l x.2.1 x.2.0 = subst (λ z. Issues a.before z x.2.1 x.2.0) lg x.2.3 in
      let b = slice_get_below y.told.0 a.before x.2.0 y.told.1 in let z = a.place in
      (x.2.0, x.2.1, omega arith, x.2.2, subst (λ (hs : List Happened). Issues hs l x.2.1 x.2.0) (sym a.split) (issues_before a.before a.after l x.2.1 x.2.0 y))
