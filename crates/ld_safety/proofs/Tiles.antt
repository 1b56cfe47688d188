-- What readers get tiles the numbers from their first one on.
use Rattle.std.proofs.Common.{◌≡◌, ◌∙◌, ◌≤◌, ◌<◌, ℕ, ◌+◌, min, inl, inr, refl, ap, sym, subst, Bool, true, false, ◌&&◌, if◌then◌else◌, nat_lt, nat_le, ◌==◌, ◌-◌, ◌^◌, cond, List, [], ◌∷◌, ◌++◌, length, filter_map, append-nil, Option, Some, None, arith}
use Rattle.std.proofs.lemmas.Bool.{cases_Bool, cases_order, and_parts, ltb-false, ltb-true, eqb-true, eqb-false}
use Rattle.std.proofs.lemmas.List.Elements.{filter_map-append}
use Rattle.std.proofs.lemmas.Grind.{flat_map-append}
use Rattle.ld_table.specs.Named.{same, find_named, put_named}
use Rattle.ld_table.specs.Words.{or_else}
use Rattle.ld_table.proofs.NameLaws.{same-self, same-flip}
use Rattle.ld_lsn.specs.Number.{home_epoch, home_esn, is_epoch_end, esn_of, epoch_of, numbered}
use Rattle.ld_schedule.specs.declared.event.Event.{Event}
use Rattle.ld_transcript.specs.declared.line.Line.{Line}
use Rattle.ld_transcript.specs.declared.line.Line.TheVariants as lines
use Rattle.ld_msg.specs.declared.msg.Msg.{Msg}
use Rattle.ld_msg.specs.declared.msg.Body.{Body}
use Rattle.ld_config.specs.declared.config.Config.{Config}
use Rattle.ld_op.specs.declared.op.Op.{Op}
use Rattle.ld_op.specs.Ticks.{Ticked, Cleans, Rebuilt, Asks, Nothing}
use Rattle.ld_ids.specs.declared.set.Spec.{Spec}
use Rattle.ld_machine.specs.Config.{looks_at}
use Rattle.ld_msg.specs.Register.{View, epoch_limit, Register, generation_of, epochs_in}
use Rattle.ld_op.specs.declared.op.Op.TheVariants as ops
use Rattle.ld_machine.specs.Disk.{Node, Kept, Written, DiskFailed, Crashed, JournalFull, keep_end}
use Rattle.ld_msg.specs.Reading.{Held, bridge_to, end_shown, end_held, Item, TrimTo, RecordHere, HoleHere, BridgeTo, LossHere, LossTo, trim_held}
use Rattle.ld_msg.specs.Reader.{Reader, Read, is_finished, gives, item_end, heard, held_with, is_newer, round_of, opened, on_answer, polled, nothing_read, look_of}
use Rattle.ld_msg.specs.Sequencer.{Called, Sequencer, Acts, rose}
use Rattle.ld_machine.specs.State.{State, Done, finish, or_none, message_lines, node_at, with_node, with_register}
use Rattle.ld_machine.specs.Facts.{Happened, Opening, opening, opening_of, Interval, interval_of, intervals}
use Rattle.ld_machine.specs.Safe.{TilesFrom, ItemsTile}
use Rattle.ld_machine.specs.World.{World, In, begin}
use Rattle.ld_machine.specs.Run.{history}
use Rattle.ld_machine.specs.Step as Step
use Rattle.ld_safety.proofs.Lists.{first_grows, or_else_some, or_else_none, or_else_new, In-append, Some_inj, not_none, cond_both, branch}
use Rattle.ld_safety.proofs.Names.{named_cases}
use Rattle.ld_safety.proofs.Traces.{Keeps, at_end, beside_kept}
use Rattle.ld_safety.proofs.Events.{reply_call, retry_call, announced, Cases, dispatch, refreshed, loaded, Opens, is_quiet, opens_as}
use Rattle.ld_safety.proofs.Steps.{is_plain, filter_finish, told, became}
use Rattle.ld_safety.proofs.Openings.{of_messages, opens_of, Unopened, no_opening, same_style}
use Rattle.ld_safety.proofs.ReaderSteps.{dropped_held, ReadKeeps, answered, below_end, end_in}
use Rattle.ld_safety.proofs.Members.{In_put}
use Rattle.ld_safety.proofs.Base.{Base}
use Rattle.ld_safety.proofs.Given.{AnyEpoch, AnyShown, AnyReleased, SmallGood, GivenEntry, GivenTrim, GivenSummary}
use Rattle.ld_safety.proofs.GivenSteps.{Given, BaseGiven, given_kept}
use Rattle.ld_safety.proofs.Carried as carried
use Rattle.ld_msg.specs.declared.msg.Body.TheVariants as bodies
use Rattle.ld_msg.specs.declared.msg.Who.TheVariants as whos
use Rattle.ld_table.specs.Table.{find, put}
use Rattle.ld_msg.specs.declared.style.Style.{Style}
use Rattle.ld_safety.proofs.Batches.{interval_same, others_lines, item_lines-append}
use Rattle.ld_machine.specs.Calm.{Move, event_of}

-- ---- lists of intervals ----

abbrev pub TilesTo : ℕ → ℕ → List Interval → ℕ → Type 0
TilesTo until next [] end = next ≡ end
TilesTo until next (i ∷ is) end = (i.low ≡ next) × (i.low ≤ i.high) × (i.high ≤ until) × TilesTo until (i.high + 1) is end

tiles_on : (until next mid end : ℕ) (is js : List Interval) → TilesTo until next is mid → TilesTo until mid js end → TilesTo until next (is ++ js) end
tiles_on until next mid end [] js a b = subst (λ n. TilesTo until n js end) (sym a) b
tiles_on until next mid end (i ∷ is) js a b = (a.0, a.1, a.2, tiles_on until (i.high + 1) mid end is js a.3 b)

forget_end : (until next end : ℕ) (is : List Interval) → TilesTo until next is end → TilesFrom until next is
forget_end until next end [] a = tt
forget_end until next end (i ∷ is) a = (a.0, a.1, a.2, forget_end until (i.high + 1) end is a.3)

tiles_left : (until next : ℕ) (is js : List Interval) → TilesFrom until next (is ++ js) → TilesFrom until next is
tiles_left until next [] js a = tt
tiles_left until next (i ∷ is) js a = (a.0, a.1, a.2, tiles_left until (i.high + 1) is js a.3)

-- a part of what tiles does
pub tiles_part : (until next : ℕ) (is js ks : List Interval) → TilesFrom until next (is ++ (js ++ ks)) → (low : ℕ) × TilesFrom until low js
tiles_part until next [] js ks a = (next, tiles_left until next js ks a)
tiles_part until next (i ∷ is) js ks a = tiles_part until (i.high + 1) is js ks a.3

-- ---- lines that are no items ----

abbrev is_item : Line → Bool
is_item (lines.Record r n p) = true
is_item (lines.BatchMessage r n i p) = true
is_item (lines.Gap r kind low high) = true
is_item _ = false

abbrev NoItems : List Line → Type 0
NoItems ls = (x : Line) → In x ls → is_item x ≡ false

no_interval : (r : List ℕ) (x : Line) → is_item x ≡ false → interval_of r x ≡ None
no_interval r (lines.Record s n p) h = absurd cc
no_interval r (lines.BatchMessage s n i p) h = absurd cc
no_interval r (lines.Gap s kind low high) h = absurd cc
no_interval r _ h = refl

none_of_lines : (r : List ℕ) (ls : List Line) → NoItems ls → filter_map (interval_of r) ls ≡ []
none_of_lines r [] h = refl
none_of_lines r (x ∷ ls) h = rw (no_interval r x (h x (inl refl))) (none_of_lines r ls (λ y i. h y (inr i)))

pub plain_interval : (r : List ℕ) (x : Line) → is_plain x ≡ true → interval_of r x ≡ None
plain_interval r (lines.Message i from to kind n) h = refl
plain_interval r lines.Nothing h = refl
plain_interval r (lines.Record s n p) h = absurd cc
plain_interval r (lines.BatchMessage s n i p) h = absurd cc
plain_interval r (lines.Gap s kind low high) h = absurd cc
plain_interval r _ h = refl

quiet_item : (x : Line) → is_quiet x ≡ true → is_item x ≡ false
quiet_item (lines.Record s n p) h = absurd cc
quiet_item (lines.BatchMessage s n i p) h = absurd cc
quiet_item (lines.Gap s kind low high) h = absurd cc
quiet_item _ h = refl

one_line : (x : Line) → is_item x ≡ false → NoItems (x ∷ [])
one_line x h y (inl e) = subst (λ z. is_item z ≡ false) (sym e) h
one_line x h y (inr i) = absurd i

both_lines : (ls ms : List Line) → NoItems ls → NoItems ms → NoItems (ls ++ ms)
both_lines ls ms a b x h = elim (In-append x ls ms h) [ inl i ↦ a x i | inr i ↦ b x i ]

kept_lines_none : (n : ℕ) (ls : List Line) (k : Kept) → NoItems ls → NoItems (Step.kept_lines n ls k)
kept_lines_none n ls Written h = h
kept_lines_none n ls DiskFailed h = one_line _ refl
kept_lines_none n ls Crashed h = one_line _ refl
kept_lines_none n ls JournalFull h = one_line _ refl

nothing_none : NoItems []
nothing_none x i = absurd i

numbered_none : (f : ℕ → Line) (ns : List ℕ) → ((n : ℕ) → is_item (f n) ≡ false) → NoItems (Step.numbered_lines f ns)
numbered_none f [] h x i = absurd i
numbered_none f (n ∷ ns) h x (inl e) = subst (λ z. is_item z ≡ false) (sym e) (h n)
numbered_none f (n ∷ ns) h x (inr i) = numbered_none f ns h x i

when_none : (b : Bool) (x : Line) → is_item x ≡ false → NoItems (Step.when b x)
when_none true x h = one_line x h
when_none false x h = nothing_none

acted_none : (name : List ℕ) (old : Sequencer) (a : Acts) → NoItems (Step.acted_lines name old a)
acted_none name old a = both_lines _ _ (numbered_none _ a.preempts (λ n. refl)) (both_lines _ _ (when_none a.failed _ refl)
    (both_lines _ _ (numbered_none _ a.acked (λ n. refl)) (both_lines _ _ (numbered_none _ a.closed (λ n. refl)) (when_none (rose old a.sequencer) _ refl))))

lost_line_none : (n epoch : ℕ) (p : Spec) (b : Bool) → NoItems (cond b (lines.NodeLost n p.log epoch ∷ []) [])
lost_line_none n epoch p true = one_line _ refl
lost_line_none n epoch p false = nothing_none

lost_lines_none : (n : ℕ) (r : Register) (ps : List Spec) → NoItems (Step.lost_lines n r ps)
lost_lines_none n r [] = nothing_none
lost_lines_none n r (p ∷ ps) = both_lines _ _ (lost_line_none n _ p _) (lost_lines_none n r ps)

format_none : (c : Config) (n : ℕ) (r : Register) → NoItems (Step.format_lines c n r)
format_none c n r x (inl e) = subst (λ z. is_item z ≡ false) (sym e) refl
format_none c n r x (inr i) = lost_lines_none n r c.logs x i

-- ---- what a longer run says ----

pub opening_grows : (c : Config) (r : List ℕ) (hs : List Happened) (h : Happened) → opening c r (hs ++ h ∷ []) ≡ or_else (opening c r hs) (opening_of c r h.lines h.event)
opening_grows c r hs h = first_grows (λ (g : Happened). opening_of c r g.lines g.event) hs h

intervals_grow : (r : List ℕ) (hs : List Happened) (old : Register) (e : Move) (d : Done) → intervals r (hs ++ told old e d ∷ []) ≡ intervals r hs ++ filter_map (interval_of r) d.lines
intervals_grow r hs old e d = flat_map-append (λ (h : Happened). filter_map (interval_of r) h.lines) hs (told old e d ∷ [])
    ∙ ap (λ l. intervals r hs ++ l) (append-nil (filter_map (interval_of r) (finish d).lines) ∙ filter_finish (interval_of r) (plain_interval r) d)

intervals_same : (r : List ℕ) (hs : List Happened) (old : Register) (e : Move) (d : Done) → filter_map (interval_of r) d.lines ≡ [] → intervals r (hs ++ told old e d ∷ []) ≡ intervals r hs
intervals_same r hs old e d n = intervals_grow r hs old e d ∙ (ap (λ l. intervals r hs ++ l) n ∙ append-nil (intervals r hs))

-- ---- what a reader has got ----

pub record Got (c : Config) (hs : List Happened) (r : List ℕ) (d : Reader) : Type 0 where
  pub open_as : Opening
  pub is : opening c r hs ≡ Some open_as
  pub log : open_as.log ≡ d.log
  pub until : open_as.until ≡ d.until
  pub messages : open_as.messages ≡ of_messages d.style
  pub start : open_as.from ≡ 0 → ⊥
  pub tiles : TilesTo d.until open_as.from (intervals r hs) d.next

abbrev pub GotBy : Config → List Happened → List ℕ → Option Reader → Type 0
GotBy c hs r None = (opening c r hs ≡ None) × (intervals r hs ≡ [])
GotBy c hs r (Some d) = Got c hs r d

abbrev pub AllGot : Config → List Happened → World → Type 0
AllGot c hs w = (r : List ℕ) → GotBy c hs r (find_named r w.state.readers)

module _ (c : Config) (hs : List Happened) (s : State) (e : Move) where
  -- nothing is given to this name, and nobody is opened
  same_got : (d : Done) (r : List ℕ) (o : Option Reader) → filter_map (interval_of r) d.lines ≡ [] → (o ≡ None → opening_of c r (finish d).lines (event_of e) ≡ None) → GotBy c hs r o → GotBy c (hs ++ told s.register e d ∷ []) r o
  same_got d r None n i g = (opening_grows c r hs (told s.register e d) ∙ or_else_none (opening c r hs) _ g.0 (i refl), intervals_same r hs s.register e d n ∙ g.1)
  same_got d r (Some x) n i g = record {
    open_as = g.open_as;
    is = opening_grows c r hs (told s.register e d) ∙ or_else_some (opening c r hs) _ g.open_as g.is;
    log = g.log;
    until = g.until;
    messages = g.messages;
    start = g.start;
    tiles = subst (λ is. TilesTo x.until g.open_as.from is x.next) (sym (intervals_same r hs s.register e d n)) g.tiles;
  }

  -- a reader gets some items
  more_got : (d : Done) (r : List ℕ) (x y : Reader) → Got c hs r x → y.log ≡ x.log → y.until ≡ x.until → y.style ≡ x.style → TilesTo x.until x.next (filter_map (interval_of r) d.lines) y.next → Got c (hs ++ told s.register e d ∷ []) r y
  more_got d r x y g a b m t = record {
    open_as = g.open_as;
    is = opening_grows c r hs (told s.register e d) ∙ or_else_some (opening c r hs) _ g.open_as g.is;
    log = g.log ∙ sym a;
    until = g.until ∙ sym b;
    messages = g.messages ∙ ap of_messages (sym m);
    start = g.start;
    tiles = subst (λ is. TilesTo y.until g.open_as.from is y.next) (sym (intervals_grow r hs s.register e d))
        (subst (λ u. TilesTo u g.open_as.from (intervals r hs ++ filter_map (interval_of r) d.lines) y.next) (sym b) (tiles_on x.until g.open_as.from x.next y.next (intervals r hs) (filter_map (interval_of r) d.lines) g.tiles t));
  }

-- ---- an answer's items ----

abbrev lines_from : List ℕ → ℕ → Read → List Interval
lines_from r until a = filter_map (interval_of r) (Step.item_lines a.reader.style r until a.items)

record Gives (r : List ℕ) (d : Reader) (a : Read) : Type 0 where
  log : a.reader.log ≡ d.log
  until : a.reader.until ≡ d.until
  held : (h : ℕ × Held) → In h a.reader.held → (round from end : ℕ) (loss : Bool) → h.1.body ≡ bodies.ReadEnded round from end loss → home_epoch end ≤ epoch_limit
  tiles : TilesTo d.until d.next (lines_from r d.until a) a.reader.next

clipped : (last until : ℕ) → (if nat_lt until last then until else last) ≡ min last until
clipped last until = cond_both (nat_lt until last) until last (λ x. x ≡ min last until) (λ t. let l = ltb-true until last t in omega arith) (λ t. let l = ltb-false until last t in omega arith)

one_tile : (r : List ℕ) (s until : ℕ) (i : Item) → s ≤ until → s ≤ item_end s i → TilesTo until s (filter_map (interval_of r) (Step.item_line r s until i ∷ [])) (min (item_end s i) until + 1)
one_tile r s until (TrimTo last) l h = rw same-self (refl, let e = clipped last until in omega arith, let e = clipped last until in omega arith, let e = clipped last until in omega arith)
one_tile r s until (RecordHere p) l h = rw same-self (refl, omega arith, l, omega arith)
one_tile r s until HoleHere l h = rw same-self (refl, omega arith, l, omega arith)
one_tile r s until (BridgeTo last) l h = rw same-self (refl, let e = clipped last until in omega arith, let e = clipped last until in omega arith, let e = clipped last until in omega arith)
one_tile r s until LossHere l h = rw same-self (refl, omega arith, l, omega arith)
one_tile r s until (LossTo last) l h = rw same-self (refl, let e = clipped last until in omega arith, let e = clipped last until in omega arith, let e = clipped last until in omega arith)

-- an end that is held is of an epoch that a register hands out
Small : Body → Type 0
Small b = (round from end : ℕ) (loss : Bool) → b ≡ bodies.ReadEnded round from end loss → home_epoch end ≤ epoch_limit

AllSmall : List (ℕ × Held) → Type 0
AllSmall hs = (h : ℕ × Held) → In h hs → Small h.1.body

shown_small : (s : ℕ) (b : Body) (k : Bool) → Small b → end_shown s b ≡ Some k → home_epoch s ≤ epoch_limit
unfolding Small
shown_small s (bodies.ReadEnded round from end loss) k h e = elim (branch ((home_epoch end == home_epoch s) && nat_le end s) (Some loss) None (Some k) e) [
  | inl t ↦ let p = and_parts (home_epoch end == home_epoch s) (nat_le end s) t.0 in subst (λ x. x ≤ epoch_limit) (eqb-true _ _ p.0) (h round from end loss refl)
  | inr t ↦ absurd (not_none t.1)
]
shown_small s _ k h e = absurd cc

end_small : (s : ℕ) (hs : List (ℕ × Held)) (k : Bool) → AllSmall hs → end_held s hs ≡ Some k → home_epoch s ≤ epoch_limit
unfolding AllSmall
end_small s hs k a h = let x = end_in s hs k h in shown_small s x.0.1.body k (a x.0 x.1) x.2

bridge_up : (s : ℕ) → home_epoch s ≤ epoch_limit → s ≤ bridge_to s
bridge_up s h = let b = below_end s in omega arith

held_small : (d : Reader) (y : ℕ) (b : Body) → AllSmall d.held → Small b → AllSmall (held_with d.held y b)
unfolding AllSmall
held_small d y b h o = cond_both (is_newer (find y d.held) (round_of b)) (put y (record { round = round_of b; body = b }) d.held) d.held (λ x. (k : ℕ × Held) → In k x → Small k.1.body)
    (λ t k i. elim (In_put y (record { round = round_of b; body = b }) d.held k i) [ inl q ↦ subst (λ (x : ℕ × Held). Small x.1.body) (sym q) o | inr j ↦ h k j ]) (λ t. h)

ended_small : (from end e : ℕ) → e ≤ home_esn from → end ≡ numbered (home_epoch from) e → home_epoch from ≤ epoch_limit → home_epoch end ≤ epoch_limit
ended_small from end e a q l = let z : home_esn from ≤ 2 ^ 32 = cond_both (is_epoch_end from) (2 ^ 32) (esn_of from) (λ x. x ≤ 2 ^ 32) (λ t. omega arith) (λ t. omega arith) in
    cond_both (is_epoch_end end) (epoch_of end - 1) (epoch_of end) (λ x. x ≤ epoch_limit)
    (λ t. omega arith)
    (λ t. elim (cases_Bool (esn_of end == 0)) [
      | inl u ↦ (let v = eqb-true _ _ u in elim (cases_Bool (nat_lt 0 (epoch_of end))) [
        | inl k ↦ absurd (let w : (true && true) ≡ false = subst (λ b. (true && b) ≡ false) k (subst (λ b. (b && nat_lt 0 (epoch_of end)) ≡ false) u t) in cc)
        | inr k ↦ let w = ltb-false _ _ k in omega arith
      ])
      | inr u ↦ (let v = eqb-false _ _ u in let pos : 0 < esn_of end = elim (cases_order 0 (esn_of end)) [ inl k ↦ absurd (v (sym k)) | inr (inl k) ↦ k | inr (inr k) ↦ absurd (omega arith) ] in omega arith)
    ])

body_small : (hs : List Happened) (l : ℕ) (b : Body) → carried.HeldOk (GivenEntry hs) (GivenTrim hs) (GivenSummary hs) AnyEpoch AnyShown AnyReleased (GivenEntry hs) SmallGood l b → Small b
unfolding Small
body_small hs l b h round from end loss e = let k : carried.EndedOk (GivenEntry hs) (GivenTrim hs) (GivenSummary hs) AnyEpoch AnyShown AnyReleased (GivenEntry hs) SmallGood l from end loss = subst (carried.HeldOk (GivenEntry hs) (GivenTrim hs) (GivenSummary hs) AnyEpoch AnyShown AnyReleased (GivenEntry hs) SmallGood l) e h in ended_small from end k.summary.end k.past k.is k.closed.1

module _ (r : List ℕ) (d : Reader) where
  gives_one : (a : Read) (i : Item) → Gives r d a → is_finished a.reader ≡ false → a.reader.next ≤ item_end a.reader.next i → Gives r d (gives a i)
  gives_one a i g f h = let u = g.until in let n = ltb-false a.reader.until a.reader.next f in record {
    log = g.log;
    until = g.until;
    held = g.held;
    tiles = subst (λ is. TilesTo d.until d.next is (min (item_end a.reader.next i) a.reader.until + 1))
        (sym (ap (filter_map (interval_of r)) (item_lines-append a.reader.style r d.until a.items ((a.reader.next, i) ∷ [])) ∙ filter_map-append (interval_of r) (Step.item_lines a.reader.style r d.until a.items) _))
        (tiles_on d.until d.next a.reader.next _ (lines_from r d.until a) _ g.tiles
        (subst (λ is. TilesTo d.until a.reader.next is (min (item_end a.reader.next i) a.reader.until + 1)) (sym (ap (filter_map (interval_of r)) (append-nil (Step.lines_of_item a.reader.style r a.reader.next d.until i)) ∙ interval_same a.reader.style r a.reader.next d.until i))
        (subst (λ v. TilesTo d.until a.reader.next (filter_map (interval_of r) (Step.item_line r a.reader.next d.until i ∷ [])) (min (item_end a.reader.next i) v + 1)) (sym u) (one_tile r a.reader.next d.until i (omega arith) h))));
  }

  gives_keeps : (looks : ℕ → View) (y : ℕ) (b : Body) → is_finished d ≡ false → AllSmall d.held → Small b → ReadKeeps looks d y b (Gives r d)
  unfolding AllSmall Small
  gives_keeps looks y b f a o = let start : Gives r d (nothing_read (heard d y b)) = record { log = refl; until = refl; held = held_small d y b a o; tiles = refl } in record {
    starts = start;
    ignored = λ h. record { log = refl; until = refl; held = a; tiles = refl };
    loss = λ h n. gives_one (nothing_read (record (heard d y b) { seen = Some (look_of looks d) })) LossHere (record { log = refl; until = refl; held = held_small d y b a o; tiles = refl }) f (omega arith);
    swapped = λ h n. record { log = refl; until = refl; held = dropped_held AllSmall (λ z i. absurd i) _ _ (held_small d y b a o); tiles = refl };
    trim = λ a g n t. gives_one a (TrimTo (trim_held a.reader.held)) g n t;
    record_there = λ a p g n t. gives_one a (RecordHere p) g n (omega arith);
    hole_there = λ a g n t. gives_one a HoleHere g n (omega arith);
    plug = λ a g n t. gives_one a LossHere g n (omega arith);
    bridge = λ a g n t. gives_one a (BridgeTo (bridge_to a.reader.next)) g n (bridge_up a.reader.next (end_small a.reader.next a.reader.held false g.held t));
    lossy_end = λ a g n t. gives_one a (LossTo (bridge_to a.reader.next)) g n (bridge_up a.reader.next (end_small a.reader.next a.reader.held true g.held t));
    confirm = λ a g n m t. record { log = g.log; until = g.until; held = dropped_held AllSmall (λ z i. absurd i) _ _ g.held; tiles = g.tiles };
    asks_all = λ a g t. record { log = g.log; until = g.until; held = dropped_held AllSmall (λ z i. absurd i) _ _ g.held; tiles = g.tiles };
    polls_on = λ a g t. record { log = g.log; until = g.until; held = dropped_held AllSmall (λ z i. absurd i) _ _ g.held; tiles = g.tiles };
  }

-- ---- every event ----

module _ (c : Config) (hs : List Happened) (w : World) (e : Move) (B : Base c hs w) (G : Given c hs w.state) (A : AllGot c hs w) where
  abbrev Result : Done → Type 0
  Result d = Unopened c w.state e d → AllGot c (hs ++ told w.state.register e d ∷ []) (became w e d [])

  -- readers stay, and no item is given
  stays : (d : Done) → d.state.readers ≡ w.state.readers → NoItems d.lines → Result d
  unfolding finish
  stays d q n i r = subst (λ (x : List (List ℕ × Reader)). GotBy c (hs ++ told w.state.register e d ∷ []) r (find_named r x)) (sym q)
      (same_got c hs w.state e d r (find_named r w.state.readers) (none_of_lines r d.lines n) (λ f. i r f (ap (find_named r) q ∙ f)) (A r))

  -- one reader changes
  changes : (d : Done) (name : List ℕ) (x y : Reader) → d.state.readers ≡ put_named name y w.state.readers → find_named name w.state.readers ≡ Some x
      → ((q : List ℕ) → same name q ≡ false → filter_map (interval_of q) d.lines ≡ []) → (Got c hs name x → Got c (hs ++ told w.state.register e d ∷ []) name y) → Result d
  unfolding finish
  changes d name x y q f o g i r = subst (λ (z : List (List ℕ × Reader)). GotBy c (hs ++ told w.state.register e d ∷ []) r (find_named r z)) (sym q) (elim (named_cases r name y w.state.readers) [
    | inl a ↦ subst (λ (v : Option Reader). GotBy c (hs ++ told w.state.register e d ∷ []) r v) (sym a.1) (subst (λ n. Got c (hs ++ told w.state.register e d ∷ []) n y) (sym a.0) (g (subst (λ (v : Option Reader). GotBy c hs name v) f (A name))))
    | inr a ↦ subst (λ (v : Option Reader). GotBy c (hs ++ told w.state.register e d ∷ []) r v) (sym a.1)
        (same_got c hs w.state e d r (find_named r w.state.readers) (o r (same-flip name r ∙ a.0)) (λ h. i r h (ap (find_named r) q ∙ (a.1 ∙ h))) (A r))
  ])

  -- a reader is opened
  opened_got : (style : Style) (name : List ℕ) (l from until : ℕ) (d : Done) → d.lines ≡ [] → d.sends ≡ [] → Opens c w.state name l from until → e ≡ opens_as style name l from until → GotBy c hs name None → Got c (hs ++ told w.state.register e d ∷ []) name (opened style l (length w.state.readers) from until)
  unfolding finish
  opened_got style name l from until d n ms o x g =
      let ls : (finish d).lines ≡ lines.Nothing ∷ [] = λ i. or_none (n i ++ message_lines d.state d.state.network.count (ms i)) in
      let op : opening_of c name (finish d).lines (event_of e) ≡ Some (record { log = l; from = from; until = until; messages = of_messages style })
      = (λ i. opening_of c name (ls i) (event_of (x i))) ∙ opens_of c style name (lines.Nothing ∷ []) name l from until ∙ ap (λ b. cond b (Some (record { log = l; from = from; until = until; messages = of_messages style })) None) ((λ i. (same-self name i && o.log i) && true)) in
      record {
        open_as = record { log = l; from = from; until = until; messages = of_messages style };
        is = opening_grows c name hs (told w.state.register e d) ∙ (or_else_new (opening c name hs) _ g.0 ∙ op);
        log = refl;
        until = refl;
        messages = refl;
        start = o.positive;
        tiles = subst (λ is. TilesTo until from is from) (sym (intervals_same name hs w.state.register e d (ap (filter_map (interval_of name)) n) ∙ g.1)) refl;
      }

  opens_one : (style : Style) (name : List ℕ) (l from until : ℕ) (d : Done) → d.state.readers ≡ put_named name (opened style l (length w.state.readers) from until) w.state.readers → d.lines ≡ [] → d.sends ≡ [] → Opens c w.state name l from until → e ≡ opens_as style name l from until → Result d
  unfolding finish
  opens_one style name l from until d q n ms o x i r = subst (λ (z : List (List ℕ × Reader)). GotBy c (hs ++ told w.state.register e d ∷ []) r (find_named r z)) (sym q) (elim (named_cases r name (opened style l (length w.state.readers) from until) w.state.readers) [
    | inl a ↦ subst (λ (v : Option Reader). GotBy c (hs ++ told w.state.register e d ∷ []) r v) (sym a.1) (subst (λ k. Got c (hs ++ told w.state.register e d ∷ []) k (opened style l (length w.state.readers) from until)) (sym a.0)
        (opened_got style name l from until d n ms o x (subst (λ (v : Option Reader). GotBy c hs name v) o.fresh_name (A name))))
    | inr a ↦ subst (λ (v : Option Reader). GotBy c (hs ++ told w.state.register e d ∷ []) r v) (sym a.1)
        (same_got c hs w.state e d r (find_named r w.state.readers) (ap (filter_map (interval_of r)) n)
        (λ h. i r h (ap (find_named r) q ∙ (a.1 ∙ h))) (A r))
  ])

  formatted : (n : ℕ) (r : Register) → Result (Step.keeps_op (with_register (loaded w.state n) r) n (ops.Format (generation_of r n) (epochs_in r.logs)) (Step.format_lines c n r) [])
  formatted n r = stays _ refl (kept_lines_none n (Step.format_lines c n r) (keep_end (node_at (with_register (loaded w.state n) r) n) (ops.Format (generation_of r n) (epochs_in r.logs))) (format_none c n r))

  acted_stays : (again : Bool) (f : List ℕ) (name : List ℕ) (q : Sequencer) (call : Called) → Result (Step.told (refreshed w.state f) name q (announced again call))
  acted_stays again f name q call = stays (Step.told (refreshed w.state f) name q (announced again call)) refl (acted_none name q call.acts)

  reader_small : (name : List ℕ) (d : Reader) → find_named name w.state.readers ≡ Some d → AllSmall d.held
  unfolding AllSmall
  reader_small name d f h i = body_small hs d.log h.1.body (G.readers name d f h i)

  message_small : (d : Reader) (m : Msg) (name : List ℕ) → In m w.state.network.sent → m.to ≡ whos.Reader d.number → find_named name w.state.readers ≡ Some d → Small m.body
  message_small d m name i t f = body_small hs m.log m.body (carried.held_of (GivenEntry hs) (GivenTrim hs) (GivenSummary hs) AnyEpoch AnyShown AnyReleased (GivenEntry hs) SmallGood m.log m.from m.body (G.sent m i).0)

  got_cases : Cases c w.state e (λ d m. Result d)
  got_cases = record {
    still = λ f older i. stays _ refl nothing_none;
    says = λ x q. stays _ refl (one_line x (quiet_item x q));
    node_hears = λ f older n m i t v o. handled f (Step.releases (node_at w.state n) m.log m.body) n m (Step.node_handles n (node_at w.state n) m).op (Step.node_handles n (node_at w.state n) m).answer;
    loads = λ n ls q b o. stays _ refl (λ x i. quiet_item x (q x i));
    draw_fails = λ n b. stays _ refl (one_line _ refl);
    formats = λ n r g b v i. formatted n r;
    ticks = λ n l t v i o. ticked n l t;
    stops = λ n b. stays _ refl (one_line _ refl);
    wipes = λ n. stays _ refl (one_line _ refl);
    faults = λ n f o. stays _ refl nothing_none;
    sets = λ l r x set h. stays _ refl (one_line (lines.Set l r x set) refl);
    arms = λ k done o. stays _ refl nothing_none;
    hears = λ f older name q m i t l v o. acted_stays false f name q (reply_call c w.state q (Step.sender_node m.from) m.body);
    retries = λ again name q v o. acted_stays again w.state.network.fresh name q (retry_call c w.state q);
    appends = λ name q p v a i. stays _ refl (one_line _ refl);
    trims = λ name q t v b. stays _ refl (one_line _ refl);
    drops = λ name q v o. stays _ refl nothing_none;
    activates = λ name l r g n i x. stays _ refl (one_line _ refl);
    swaps = λ n m l x r q i. stays _ refl (one_line x (quiet_item x q));
    activate_fails = λ name l x g q. stays _ refl (one_line x (quiet_item x q));
    answers = λ f older name d m i t v o. let a = answered (looks_at c w.state.register d.log) d (Step.sender_node m.from) m.body (Gives name d) (gives_keeps name d (looks_at c w.state.register d.log) (Step.sender_node m.from) m.body v.open_still (reader_small name d v.named) (message_small d m name i t v.named)) in
        changes _ name d (on_answer (looks_at c w.state.register d.log) d (Step.sender_node m.from) m.body).reader refl v.named
        (λ q h. others_lines _ name q (on_answer (looks_at c w.state.register d.log) d (Step.sender_node m.from) m.body).reader.until (on_answer (looks_at c w.state.register d.log) d (Step.sender_node m.from) m.body).items h)
        (λ g. more_got c hs w.state e (Step.read (refreshed w.state f) name (on_answer (looks_at c w.state.register d.log) d (Step.sender_node m.from) m.body)) name d (on_answer (looks_at c w.state.register d.log) d (Step.sender_node m.from) m.body).reader g a.log a.until (same_style (looks_at c w.state.register d.log) d (Step.sender_node m.from) m.body)
        (subst (λ u. TilesTo d.until d.next (lines_from name u (on_answer (looks_at c w.state.register d.log) d (Step.sender_node m.from) m.body)) (on_answer (looks_at c w.state.register d.log) d (Step.sender_node m.from) m.body).reader.next) (sym a.until) a.tiles));
    polls = λ name d v o. changes _ name d (polled (looks_at c w.state.register d.log) d) refl v.named (λ q h. refl) (λ g. more_got c hs w.state e _ name d (polled (looks_at c w.state.register d.log) d) g refl refl refl refl);
    opens = λ style name l from until o x. opens_one style name l from until _ refl refl refl o x;
  } where
    handled : (f : List ℕ) (x : Node) (n : ℕ) (m : Msg) (o : Option Op) (b : Option Body) → Result (Step.handles (with_node (refreshed w.state f) n x) n m o b)
    handled f x n m None b = stays (Step.handles (with_node (refreshed w.state f) n x) n m None b) refl nothing_none
    handled f x n m (Some o) b = stays (Step.handles (with_node (refreshed w.state f) n x) n m (Some o) b) refl (kept_lines_none n [] (keep_end (node_at (with_node (refreshed w.state f) n x) n) o) nothing_none)

    ticked : (n l : ℕ) (t : Ticked) → Result (Step.ticks_as c w.state n l t)
    ticked n l (Cleans k y) = stays (Step.ticks_as c w.state n l (Cleans k y)) refl (kept_lines_none n [] (keep_end (node_at w.state n) (ops.Clean l k y)) nothing_none)
    ticked n l Rebuilt = stays (Step.ticks_as c w.state n l Rebuilt) refl (kept_lines_none n (lines.NodeRebuilt n l ∷ []) (keep_end (node_at w.state n) (ops.Refilled l)) (one_line (lines.NodeRebuilt n l) refl))
    ticked n l (Asks from) = stays (Step.ticks_as c w.state n l (Asks from)) refl nothing_none
    ticked n l Nothing = stays (Step.ticks_as c w.state n l Nothing) refl nothing_none

abbrev pub Reads : Config → List Happened → World → Type 0
Reads c hs w = BaseGiven c hs w × AllGot c hs w

start_got : (c : Config) → AllGot c [] (begin c)
unfolding find_named
start_got c r = (refl, refl)

pub tiles_kept : (c : Config) → Keeps c (Reads c)
tiles_kept c = beside_kept c (BaseGiven c) (AllGot c) (given_kept c) (start_got c) (λ hs w e B C A. dispatch c w.state e (λ d m. Unopened c w.state e d → AllGot c (hs ++ told w.state.register e d ∷ []) (became w e d m)) B.0.0.0 (got_cases c hs w e B.0 B.1 A) (no_opening c w.state e))

pub got_of : (c : Config) (hs : List Happened) (w : World) → AllGot c hs w → (s : List ℕ) (d : Reader) → find_named s w.state.readers ≡ Some d → Got c hs s d
got_of c hs w b s d f = subst (λ (o : Option Reader). GotBy c hs s o) f (b s)

pub items_tile : (c : Config) (es : List Event) → ItemsTile c (history c es)
items_tile c es r o h = let p = at_end c (Reads c) (tiles_kept c) es in tiled (find_named r p.0.state.readers) (p.1.1 r) where
  tiled : (x : Option Reader) → GotBy c (history c es) r x → TilesFrom o.until o.from (intervals r (history c es))
  tiled None g = absurd (let q = g.0 in not_none (sym q ∙ h))
  tiled (Some d) g = let q : g.open_as ≡ o = Some_inj (sym g.is ∙ h) in
      subst (λ (x : Opening). TilesFrom x.until x.from (intervals r (history c es))) q (subst (λ u. TilesFrom u g.open_as.from (intervals r (history c es))) (sym g.until) (forget_end d.until g.open_as.from d.next _ g.tiles))
