-- A sequencer: appends, acknowledgements, the recovery of earlier epochs, and what it does at a reply or a retry.
use Rattle.std.specs.Prelude.{ℕ, ◌+◌, ◌-◌, ◌^◌, min, suc, List, [], ◌∷◌, ◌++◌, length, Option, Some, None, Bool, true, false, ◌&&◌, ◌||◌, not, ◌==◌, nat_lt, nat_le, if◌then◌else◌}
use Rattle.ld_table.specs.Table.{find, put}
use Rattle.ld_table.specs.Words.{is_in, with_one, without, all_of}
use Rattle.ld_lsn.specs.Number.{epoch_of, numbered, home_epoch, last_esn, epoch_end}
use Rattle.ld_msg.specs.declared.msg.What.{What}
use Rattle.ld_msg.specs.declared.msg.What.TheVariants.{Rec}
use Rattle.ld_msg.specs.declared.msg.Entry.{Entry}
use Rattle.ld_msg.specs.declared.msg.Summary.{Summary}
use Rattle.ld_msg.specs.declared.msg.Body.{Body}
use Rattle.ld_msg.specs.declared.msg.Body.TheVariants as bodies
use Rattle.ld_ids.specs.declared.set.Spec.{Spec}
use Rattle.ld_ids.specs.Choice.{nodes_of}
use Rattle.ld_msg.specs.Choice.{choice}
use Rattle.ld_msg.specs.Digest.{Told, no_digest, with_page, with_asks, with_lost, takes_page, enough, is_spent, Item, Plan, plan}
use Rattle.ld_msg.specs.Register.{Register, Changed, Answer, Granted, AtLimit, Behind, Overtaken, Fails, View, close}

-- an append: its payload, the wave that it was sent in last, and the nodes that stored it
pub record Append : Type 0 where
  pub payload : List ℕ
  pub wave : ℕ
  pub stored : List ℕ

-- an item of a plan, and the nodes that stored it or trimmed it away
pub record Planned : Type 0 where
  pub what : What
  pub settled : List ℕ

-- a plan that is being stored: its trim, its last known good offset, its end, whether it says what is lost, its items by number, the wave that they were sent in last
pub record Storing : Type 0 where
  pub trim : ℕ
  pub lng : ℕ
  pub end : ℕ
  pub loss : Bool
  pub items : List (ℕ × Planned)
  pub wave : ℕ

pub data Stage : Type 0 where
  Seals : (digest : List Told) → Stage
  Stores : (storing : Storing) → Stage
  Closes : (summary : Summary) (short : Bool) → Stage

-- the recovery of an epoch, what was fixed for it as the recovery began, and the nodes that said that they are lost for it
pub record Recovery : Type 0 where
  pub epoch : ℕ
  pub spec : Spec
  pub lost : List ℕ
  pub stage : Stage

-- what is fixed for its epoch, the appends above the last number such that it and all below are acknowledged, the nodes that are lost for its own epoch
pub record Sequencer : Type 0 where
  pub log : ℕ
  pub epoch : ℕ
  pub spec : Spec
  pub lce : ℕ
  pub lng : ℕ
  pub appends : List (ℕ × Append)
  pub lost : List ℕ
  pub recovery : Option Recovery
  pub preempted : Option ℕ
  pub gone : Bool

-- what is released: nothing of its epoch before all earlier ones are closed
abbrev pub released_of : Sequencer → ℕ
released_of q = if nat_lt (q.lce + 1) q.epoch then epoch_end q.lce else numbered q.epoch q.lng

-- a message goes to a node: a pair of its number and the body
abbrev pub to_each : Body → List ℕ → List (ℕ × Body)
to_each b [] = []
to_each b (y ∷ ys) = (y, b) ∷ to_each b ys

-- the greatest wave
abbrev pub last_wave : ℕ
last_wave = 2 ^ 32 - 1

abbrev pub next_wave : ℕ → ℕ
next_wave w = min (w + 1) last_wave

-- ---- what one call did ----

-- a close: of an epoch, with a summary, and whether all its nodes answered or are lost, but not enough answered
pub record Attempt : Type 0 where
  pub epoch : ℕ
  pub summary : Summary
  pub short : Bool

-- the new sequencer, the close that is then tried in the register, what was acknowledged, the end of the epoch that was closed, what was refused, and the messages by kind
pub record Acts : Type 0 where
  pub sequencer : Sequencer
  pub tries : List Attempt
  pub acked : List ℕ
  pub closed : List ℕ
  pub preempts : List ℕ
  pub failed : Bool
  pub cleans : List (ℕ × Body)
  pub asks : List (ℕ × Body)
  pub stores : List (ℕ × Body)

abbrev pub does_nothing : Sequencer → Acts
does_nothing q = record { sequencer = q; tries = []; acked = []; closed = []; preempts = []; failed = false; cleans = []; asks = []; stores = [] }

abbrev pub becomes : Acts → Sequencer → Acts
becomes a q = record a { sequencer = q }

abbrev pub with_stage : Sequencer → Recovery → Stage → Sequencer
with_stage q v s = record q { recovery = Some (record v { stage = s }) }

abbrev pub preempted_by : Sequencer → ℕ → Sequencer
preempted_by q k = record q { preempted = Some k }

abbrev pub preempt : Acts → ℕ → Acts
preempt a k = record a { sequencer = preempted_by a.sequencer k; preempts = k ∷ [] }

-- ---- recovery ----

-- an ask for a digest from a number on
abbrev pub digest_asks : List Told → List (ℕ × Body)
digest_asks [] = []
digest_asks (t ∷ d) = if t.whole then digest_asks d else (t.node, bodies.DigestAsk t.asked) ∷ digest_asks d

-- the recovery of an epoch begins with what a look shows of it
abbrev pub begun : View → Recovery
begun w = record { epoch = w.at; spec = w.spec; lost = []; stage = Seals (no_digest w.spec w.at) }

-- looks tell what a look at an epoch of the log shows at this moment
abbrev pub recovery_of : (ℕ → View) → Sequencer → ℕ → Option Recovery
recovery_of looks q lce = if nat_lt (lce + 1) q.epoch then Some (begun (looks (lce + 1))) else None

abbrev pub recovery_asks : (ℕ → View) → Sequencer → ℕ → List (ℕ × Body)
recovery_asks looks q lce = if nat_lt (lce + 1) q.epoch then digest_asks (no_digest (looks (lce + 1)).spec (lce + 1)) else []

-- epochs up to this one are closed: the next one is recovered, if it is before the sequencer's own
abbrev pub goes_on : (ℕ → View) → Acts → ℕ → Acts
goes_on looks a lce = record a {
  sequencer = record a.sequencer { lce = lce; recovery = recovery_of looks a.sequencer lce };
  asks = recovery_asks looks a.sequencer lce;
}

-- the nodes of a recovered epoch
abbrev pub recovered_nodes : Option Recovery → List ℕ
recovered_nodes None = []
recovered_nodes (Some v) = nodes_of v.spec

abbrev pub tells_clean : Acts → ℕ → Summary → Acts
tells_clean a epoch y = record a { cleans = to_each (bodies.Clean epoch y) (recovered_nodes a.sequencer.recovery) }

-- what the register answered to the close
unfoldable pub after_close : (ℕ → View) → Acts → ℕ → Summary → Answer → Acts
after_close looks a epoch y Granted = record (goes_on looks (tells_clean a epoch y) epoch) { closed = numbered epoch y.end ∷ [] }
after_close looks a epoch y AtLimit = a
after_close looks a epoch y (Behind lce) = if nat_le a.sequencer.epoch lce then preempt a (lce + 1) else goes_on looks a lce
after_close looks a epoch y (Overtaken k) = preempt a k
after_close looks a epoch y Fails = record a { failed = true }

-- the close comes last in a call
abbrev pub try_close : Acts → ℕ → Summary → Bool → Acts
try_close a epoch y short = record a { tries = record { epoch = epoch; summary = y; short = short } ∷ [] }

-- ---- storing a plan ----

abbrev pub planned : List Item → List (ℕ × Planned)
planned [] = []
planned (i ∷ is) = (i.number, record { what = i.what; settled = [] }) ∷ planned is

abbrev pub storing_of : Plan → Storing
storing_of p = record { trim = p.trim; lng = p.lng; end = p.end; loss = p.loss; items = planned p.items; wave = 0 }

-- the nodes of the epoch that haven't said that they are lost
abbrev pub left_nodes : Spec → List ℕ → List ℕ
left_nodes s lost = without lost (nodes_of s)

-- a loss plan goes to all of these, and so does any where they are fewer than the factor
abbrev pub is_wide : Spec → List ℕ → Bool → Bool
is_wide s lost loss = loss || nat_lt (length (left_nodes s lost)) s.r

-- where an item goes: each item that fewer nodes than the factor settled goes to the choice of the wave
abbrev pub item_nodes : Spec → List ℕ → Bool → ℕ → ℕ → List ℕ → List ℕ
item_nodes s lost loss wave n settled =
    if is_wide s lost loss then without settled (left_nodes s lost)
    else if nat_lt (length settled) s.r then choice s lost n wave
    else []

abbrev pub item_stores : Spec → List ℕ → Bool → ℕ → ℕ → List (ℕ × Planned) → List (ℕ × Body)
item_stores s lost loss lng wave [] = []
item_stores s lost loss lng wave (i ∷ is) = to_each (bodies.Store i.0 lng i.1.what) (item_nodes s lost loss wave i.0 i.1.settled) ++ item_stores s lost loss lng wave is

-- each item has enough nodes
unfoldable pub is_ready : Spec → Storing → Bool
is_ready s g = all_of (λ i. nat_le s.r (length i.1.settled)) g.items

abbrev pub summary_of : ℕ → Storing → Summary
summary_of ballot g = record { ballot = ballot; lng = g.lng; trim = g.trim; end = g.end; loss = g.loss }

-- a loss plan isn't, whatever its nodes answered
abbrev pub is_fully_ready : Spec → Storing → Bool
is_fully_ready s g = not g.loss && is_ready s g

-- each node of the epoch settled each item, or is lost
unfoldable pub is_ready_short : Spec → List ℕ → Storing → Bool
is_ready_short s lost g = all_of (λ i. all_of (λ y. is_in y i.1.settled || is_in y lost) (nodes_of s)) g.items

-- a plan goes to its first wave
abbrev pub stores_plan : Acts → Recovery → Plan → Acts
stores_plan a v p = record a {
  sequencer = with_stage a.sequencer v (Stores (storing_of p));
  stores = item_stores v.spec v.lost p.loss p.lng 0 (planned p.items);
}

-- after an answer the plan is closed, where it is ready
abbrev pub closes_ready : Acts → Recovery → Storing → Acts
closes_ready a v g =
    if is_fully_ready v.spec g || is_ready_short v.spec v.lost g
    then try_close (becomes a (with_stage a.sequencer v (Closes (summary_of a.sequencer.epoch g) (not (is_fully_ready v.spec g))))) v.epoch (summary_of a.sequencer.epoch g) (not (is_fully_ready v.spec g))
    else becomes a (with_stage a.sequencer v (Stores g))

-- a node settles the items that pass
abbrev pub settle : (ℕ → Bool) → ℕ → List (ℕ × Planned) → List (ℕ × Planned)
settle p y [] = []
settle p y (i ∷ is) = (i.0, if p i.0 then record { what = i.1.what; settled = with_one y i.1.settled } else i.1) ∷ settle p y is

abbrev pub settled_by : (ℕ → Bool) → ℕ → Storing → Storing
settled_by p y g = record g { items = settle p y g.items }

abbrev pub settles : Acts → Recovery → (ℕ → Bool) → ℕ → Stage → Acts
settles a v p y (Stores g) = closes_ready a v (settled_by p y g)
settles a v p y _ = a

-- ---- sealing ----

abbrev pub next_ask : ℕ → List Told → List (ℕ × Body)
next_ask y [] = []
next_ask y (t ∷ d) = if t.node == y then (if t.whole then [] else (y, bodies.DigestAsk t.asked) ∷ []) else next_ask y d

abbrev pub takes_any : ℕ → ℕ → List Told → Bool
takes_any y from [] = false
takes_any y from (t ∷ d) = takes_page y from t || takes_any y from d

abbrev pub seals_on : Acts → Recovery → List Told → List (ℕ × Body) → Acts
seals_on a v d asks = record a { sequencer = with_stage a.sequencer v (Seals d); asks = asks }

-- the epoch was closed by someone
abbrev pub passes : (ℕ → View) → Acts → ℕ → Summary → Acts
passes looks a epoch y = goes_on looks (tells_clean a epoch y) epoch

-- a look at an epoch whose digest is spent: it was closed, or it is this sequencer that says what is lost, or one after it
abbrev pub by_look : (ℕ → View) → Acts → Recovery → List Told → Option Summary → ℕ → Acts
by_look looks a v d (Some y) epoch = passes looks a v.epoch y
by_look looks a v d None epoch = if epoch == a.sequencer.epoch then stores_plan a v (plan v.epoch true d) else preempt a epoch

abbrev pub looks_now : (ℕ → View) → Acts → Recovery → List Told → Acts
looks_now looks a v d = by_look looks a v d (looks v.epoch).summary (looks v.epoch).epoch

-- a digest with one answer more: enough, or spent, or these asks are sent
abbrev pub with_digest : (ℕ → View) → Acts → Recovery → List Told → List (ℕ × Body) → Acts
with_digest looks a v d asks =
    if enough v.spec d then stores_plan a v (plan v.epoch false d)
    else if is_spent v.spec d then looks_now looks a v d
    else seals_on a v d asks

abbrev pub adds_page : (ℕ → View) → Acts → Recovery → ℕ → List Told → Acts
adds_page looks a v y d = with_digest looks a v d (next_ask y d)

abbrev pub digests : (ℕ → View) → Acts → Recovery → ℕ → ℕ → ℕ → ℕ → ℕ → List Entry → Stage → Acts
digests looks a v y from upto trim lng es (Seals d) = if takes_any y from d then adds_page looks a v y (with_page v.epoch y from upto trim lng es d) else a
digests looks a v y from upto trim lng es _ = a

-- ---- lost nodes ----

abbrev pub lost_stage : ℕ → Stage → Stage
lost_stage y (Seals d) = Seals (with_lost y d)
lost_stage y (Stores g) = Stores g
lost_stage y (Closes s short) = Closes s short

abbrev pub recovery_lost : ℕ → Recovery → Recovery
recovery_lost y v = record v { lost = with_one y v.lost; stage = lost_stage y v.stage }

-- the digest may be spent now, or the plan ready
abbrev pub after_lost : (ℕ → View) → Acts → Recovery → Stage → Acts
after_lost looks a v (Seals d) = with_digest looks a v d []
after_lost looks a v (Stores g) = closes_ready a v g
after_lost looks a v (Closes s short) = becomes a (with_stage a.sequencer v (Closes s short))

abbrev pub loses_node : (ℕ → View) → Acts → Recovery → Acts
loses_node looks a v = after_lost looks a v v.stage

-- ---- acknowledgements ----

abbrev pub is_acked : Spec → Append → Bool
is_acked s p = nat_le s.r (length p.stored)

-- how many of the first appends are acknowledged
abbrev pub acked_first : Spec → List (ℕ × Append) → ℕ
acked_first s [] = 0
acked_first s (p ∷ ps) = if is_acked s p.1 then suc (acked_first s ps) else 0

-- those from the first one on that isn't
abbrev pub unacked_from : Spec → List (ℕ × Append) → List (ℕ × Append)
unacked_from s [] = []
unacked_from s (p ∷ ps) = if is_acked s p.1 then unacked_from s ps else p ∷ ps

abbrev pub stored_at : Append → ℕ → Append
stored_at p y = record p { stored = with_one y p.stored }

abbrev pub with_append : Spec → Sequencer → ℕ → Append → Sequencer
with_append s q n p = record q { appends = unacked_from s (put n p q.appends); lng = q.lng + acked_first s (put n p q.appends) }

abbrev pub acks_append : Acts → ℕ → ℕ → Option Append → Acts
acks_append a y n None = a
acks_append a y n (Some p) = record a {
  sequencer = with_append a.sequencer.spec a.sequencer n (stored_at p y);
  acked = if is_acked a.sequencer.spec p then [] else if is_acked a.sequencer.spec (stored_at p y) then n ∷ [] else [];
}

-- ---- replies ----

-- a reply that speaks of an epoch in recovery
abbrev pub in_recovery : Acts → ℕ → Option Recovery → (Recovery → Acts) → Acts
in_recovery a epoch None f = a
in_recovery a epoch (Some v) f = if v.epoch == epoch then f v else a

-- what a node stored or trimmed counts where it is of the epoch's set
abbrev pub of_member : Spec → ℕ → Acts → Acts → Acts
of_member s y acts quiet = if is_in y (nodes_of s) then acts else quiet

abbrev pub by_stored : Acts → ℕ → ℕ → Acts
by_stored a y n =
    if epoch_of n == a.sequencer.epoch then of_member a.sequencer.spec y (acks_append a y n (find n a.sequencer.appends)) a
    else in_recovery a (epoch_of n) a.sequencer.recovery (λ v. of_member v.spec y (settles a v (λ s. s == n) y v.stage) a)

abbrev pub by_trimmed : Acts → ℕ → ℕ → ℕ → Acts
by_trimmed a y n t = in_recovery a (epoch_of n) a.sequencer.recovery (λ v. of_member v.spec y (settles a v (λ s. nat_le s t) y v.stage) a)

abbrev pub by_lost : (ℕ → View) → Acts → ℕ → ℕ → Acts
by_lost looks a y n =
    if home_epoch n == a.sequencer.epoch then becomes a (record a.sequencer { lost = with_one y a.sequencer.lost })
    else in_recovery a (home_epoch n) a.sequencer.recovery (λ v. loses_node looks a (recovery_lost y v))

abbrev pub by_clean : (ℕ → View) → Acts → ℕ → Summary → Acts
by_clean looks a n s =
    if home_epoch n == a.sequencer.epoch then preempt a s.ballot
    else in_recovery a (home_epoch n) a.sequencer.recovery (λ v. passes looks a v.epoch s)

abbrev pub by_reply : (ℕ → View) → Acts → ℕ → Body → Acts
by_reply looks a y (bodies.Stored n) = by_stored a y n
by_reply looks a y (bodies.SealedHere n k) = if nat_lt a.sequencer.epoch k then preempt a k else a
by_reply looks a y (bodies.LostHere n round generation end) = by_lost looks a y n
by_reply looks a y (bodies.CleanHere n s) = by_clean looks a n s
by_reply looks a y (bodies.TrimmedHere n t) = by_trimmed a y n t
by_reply looks a y (bodies.DigestPage from upto trim lng es) = in_recovery a (epoch_of from) a.sequencer.recovery (λ v. digests looks a v y from upto trim lng es v.stage)
by_reply looks a y _ = a

-- a preempted sequencer ignores all replies
abbrev pub unless_preempted : Option ℕ → Acts → Acts → Acts
unless_preempted None acts quiet = acts
unless_preempted (Some k) acts quiet = quiet

unfoldable pub on_reply : (ℕ → View) → Sequencer → ℕ → Body → Acts
on_reply looks q y b = unless_preempted q.preempted (by_reply looks (does_nothing q) y b) (does_nothing q)

-- ---- a retry ----

abbrev pub raised : Spec → List (ℕ × Append) → List (ℕ × Append)
raised s [] = []
raised s (p ∷ ps) = (p.0, if is_acked s p.1 then p.1 else record { payload = p.1.payload; wave = next_wave p.1.wave; stored = p.1.stored }) ∷ raised s ps

-- a pending append goes to the chosen nodes that haven't stored it
abbrev pub append_stores : Spec → List ℕ → ℕ → List (ℕ × Append) → List (ℕ × Body)
append_stores s lost lng [] = []
append_stores s lost lng (p ∷ ps) = (if is_acked s p.1 then [] else to_each (bodies.Store p.0 lng (Rec p.1.payload)) (without p.1.stored (choice s lost p.0 p.1.wave))) ++ append_stores s lost lng ps

abbrev pub retries_appends : Acts → Acts
retries_appends a = record a {
  sequencer = record a.sequencer { appends = raised a.sequencer.spec a.sequencer.appends };
  stores = append_stores a.sequencer.spec a.sequencer.lost a.sequencer.lng (raised a.sequencer.spec a.sequencer.appends);
}

abbrev pub next_try : Storing → Storing
next_try g = record g { wave = next_wave g.wave }

abbrev pub with_stores : List (ℕ × Body) → Acts → Acts
with_stores ms a = record a { stores = a.stores ++ ms }

abbrev pub asks_again : Acts → Recovery → List Told → Acts
asks_again a v d = seals_on a v d (digest_asks d)

-- a digest stays spent only where the register couldn't be looked at: then it is now
abbrev pub retries_stage : (ℕ → View) → Acts → Recovery → Stage → Acts
retries_stage looks a v (Seals d) =
    if is_spent v.spec d then with_stores a.stores (looks_now looks (record a { stores = [] }) v d)
    else asks_again a v (with_asks v.epoch d)
retries_stage looks a v (Stores g) = closes_ready (record a { stores = item_stores v.spec v.lost g.loss g.lng (next_wave g.wave) g.items ++ a.stores }) v (next_try g)
retries_stage looks a v (Closes y short) = try_close a v.epoch y short

abbrev pub retries_recovery : (ℕ → View) → Acts → Option Recovery → Acts
retries_recovery looks a None = a
retries_recovery looks a (Some v) = retries_stage looks a v v.stage

unfoldable pub on_retry : (ℕ → View) → Sequencer → Acts
on_retry looks q = unless_preempted q.preempted (retries_recovery looks (retries_appends (does_nothing q)) q.recovery) (does_nothing q)

-- ---- the close, and the messages of a call ----

-- a call with the register's answer to its close, where it tries one
pub record Called : Type 0 where
  pub acts : Acts
  pub register : Register

abbrev pub answered : (ℕ → View) → Acts → ℕ → Summary → Changed → Called
answered looks a epoch y d = record { acts = after_close looks a epoch y d.answer; register = d.register }

abbrev pub called : (ℕ → View) → Register → Acts → List Attempt → Called
called looks r a [] = record { acts = a; register = r }
called looks r a (t ∷ ts) = answered looks a t.epoch t.summary (close r a.sequencer.log t.epoch t.summary t.short)

-- whether the released number rose
abbrev pub rose : Sequencer → Sequencer → Bool
rose old new = nat_lt (released_of old) (released_of new)

abbrev pub release_messages : Sequencer → Sequencer → List (ℕ × Body)
release_messages old new = if rose old new then to_each (bodies.Release (released_of new)) (nodes_of new.spec) else []

-- the messages of a call, in their order
abbrev pub acted_messages : Sequencer → Acts → List (ℕ × Body)
acted_messages old a = a.cleans ++ (release_messages old a.sequencer ++ (a.asks ++ a.stores))

-- ---- appends ----

-- how many numbers may stand above the last one such that it and all below are acknowledged
abbrev pub window_limit : ℕ
window_limit = 128

abbrev pub payload_limit : ℕ
payload_limit = 65535

-- the next append's offset in the epoch
abbrev pub next_esn : Sequencer → ℕ
next_esn q = q.lng + length q.appends + 1

-- how an append ends
pub data Appending : Type 0 where
  TooLong : Appending
  Preempted : (by : ℕ) → Appending
  EpochFull : Appending
  WindowFull : Appending
  Numbered : Appending

abbrev pub or_preempted : Option ℕ → Appending → Appending
or_preempted None o = o
or_preempted (Some k) o = Preempted k

unfoldable pub appending : Sequencer → List ℕ → Appending
appending q payload =
    if nat_lt payload_limit (length payload) then TooLong
    else or_preempted q.preempted (if next_esn q == last_esn then EpochFull else if nat_le window_limit (length q.appends) then WindowFull else Numbered)

abbrev pub fresh_append : List ℕ → Append
fresh_append payload = record { payload = payload; wave = 0; stored = [] }

abbrev pub appended : Sequencer → List ℕ → Sequencer
appended q payload = record q { appends = q.appends ++ (numbered q.epoch (next_esn q), fresh_append payload) ∷ [] }

abbrev pub first_stores : Sequencer → List ℕ → List (ℕ × Body)
first_stores q payload = to_each (bodies.Store (numbered q.epoch (next_esn q)) q.lng (Rec payload)) (choice q.spec q.lost (numbered q.epoch (next_esn q)) 0)

-- ---- activation ----

abbrev pub bare : Spec → ℕ → ℕ → ℕ → Sequencer
bare spec l epoch lce = record { log = l; epoch = epoch; spec = spec; lce = lce; lng = 0; appends = []; lost = []; recovery = None; preempted = None; gone = false }

unfoldable pub activated : (ℕ → View) → Spec → ℕ → ℕ → ℕ → Sequencer
activated looks spec l epoch lce = record (bare spec l epoch lce) { recovery = recovery_of looks (bare spec l epoch lce) lce }
