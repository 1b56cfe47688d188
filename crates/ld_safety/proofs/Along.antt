-- Nodes, pages, digests and plans along every run.
use Rattle.std.proofs.Common.{◌≡◌, ◌⊎◌, ◌≤◌, ◌<◌, inr, ℕ, inl, refl, sym, subst, Bool, true, false, cond, List, [], ◌∷◌, Option, Some, arith}
use Rattle.ld_msg.specs.declared.msg.Who.{Who}
use Rattle.ld_safety.proofs.CopiesKept.{NodeCopies, start_copies}
use Rattle.ld_msg.specs.declared.msg.Body.{Body}
use Rattle.ld_op.specs.Plain.{Plain}
use Rattle.ld_msg.specs.declared.msg.Summary.{Summary}
use Rattle.ld_safety.proofs.Acks.{AcksFine}
use Rattle.ld_safety.proofs.CleansKept.{NodeClean, start_clean}
use Rattle.ld_safety.proofs.Senders.{AnswersFrom}
use Rattle.std.specs.Option.{unwrap_or}
use Rattle.std.specs.Ordering.{nat_cmp}
use Rattle.std.specs.BTreeMap.{is_at}
use Rattle.ld_table.specs.Table.{find}
use Rattle.ld_table.specs.Named.{find_named}
use Rattle.ld_ids.specs.Set.{members}
use Rattle.ld_config.specs.declared.config.Config.{Config}
use Rattle.ld_msg.specs.Register.{empty_register, epochs_of}
use Rattle.ld_msg.specs.Sequencer.{Sequencer}
use Rattle.ld_machine.specs.Disk.{Node, new_node}
use Rattle.ld_machine.specs.State.{start, node_at, new_nodes}
use Rattle.ld_machine.specs.Facts.{Happened}
use Rattle.ld_machine.specs.World.{World, In, begin}
use Rattle.ld_safety.proofs.Lists.{not_none}
use Rattle.ld_safety.proofs.Protocol.{Basis, plan_of, PlansOnce}
use Rattle.ld_safety.proofs.Said.{Reached, Said, SaidHere, AllSaid, good_low}
use Rattle.ld_safety.proofs.Settled.{TrimFine, CloseFine, ShowFine, ReleaseFine, LngFine}
use Rattle.ld_safety.proofs.Holdings.{blank_holds}
use Rattle.ld_safety.proofs.HoldSteps.{UpFine}
use Rattle.ld_safety.proofs.HoldKept.{NodeHolds}
use Rattle.ld_safety.proofs.Sent.{ShowsAll, PagesBounded}
use Rattle.ld_safety.proofs.DigestKept.{AllFine, MadeBelow}
use Rattle.ld_safety.proofs.Plannings.{PlanMade, PagesOf}
use Rattle.ld_safety.proofs.Rising.{Rising}
use Rattle.ld_safety.proofs.Registers.{EachClosed, start_each}
use Rattle.ld_safety.proofs.SentDrawn.{Drawn}
use Rattle.ld_safety.proofs.LostSaid.{LostWithin, SaidLost, blank_within}
use Rattle.ld_safety.proofs.LossBook.{AllLosses, FoundBelow}
use Rattle.ld_safety.proofs.Shown.{ClosedLast}
use Rattle.ld_safety.proofs.LastClose.{NextOf}
use Rattle.ld_safety.proofs.InSet.{InSent, StoredOf, LookIn}
use Rattle.ld_safety.proofs.Answered.{TrimmedOf}
use Rattle.ld_safety.proofs.Joins.{SetsFollow, JoinedFine, start_follow}
use Rattle.ld_safety.proofs.LookedUp.{OfLook}
use Rattle.ld_safety.proofs.LostFullKept.{FullNode, blank_full}
use Rattle.ld_safety.proofs.Marks.{Marked, blank_marked}
use Rattle.ld_safety.proofs.MarksKept.{MarkedNode}
use Rattle.ld_safety.proofs.LngLow.{PagesLow}
use Rattle.ld_safety.proofs.Digesting.{FullAt}
use Rattle.ld_safety.proofs.Carried as carried
use Rattle.ld_safety.proofs.CarriedNodes as nodes
use Rattle.ld_safety.proofs.Has as has

-- an epoch's last plan, which no sequencer follows
pub record LastPlan (w : World) (l e b : ℕ) : Type 0 where
  pub above : (a : ℕ) (d : Basis) → In (plan_of l e a d) w.made → a ≤ b
  pub knows : (t : List ℕ) (q : Sequencer) → find_named t w.state.sequencers ≡ Some q → q.log ≡ l → b < q.epoch → e ≤ q.lce

-- how an epoch was closed: each item was settled by as many nodes as there are copies, or with its last plan
abbrev pub ClosedHow : Config → List Happened → World → ℕ → ℕ → Summary → Type 0
ClosedHow c hs w l e y = FullAt c hs w.state.network.sent w.made w.state.register l e y.ballot ⊎ LastPlan w l e y.ballot

pub record Along (c : Config) (hs : List Happened) (w : World) : Type 0 where
  pub said : AllSaid c hs w.made w.state.register w.state
  pub ups : (y : ℕ) → UpFine (node_at w.state y)
  pub holds : (y : ℕ) → NodeHolds w.made w.state.network.sent y (node_at w.state y)
  pub shows : ShowsAll w.made w.state.network.sent
  pub bounded : PagesBounded w.state.network.sent
  pub below : MadeBelow w.made w.state.register
  pub once : PlansOnce w.made
  pub recoveries : AllFine c hs w.state.network.sent w.made w.state.register w.state.sequencers
  pub plans : (l e b : ℕ) (f : Basis) → In (plan_of l e b f) w.made → PlanMade c hs w.state.network.sent w.made w.state.register l e b f
  pub stored_from : AnswersFrom w.state.network.sent
  pub acks : (t : List ℕ) (q : Sequencer) → find_named t w.state.sequencers ≡ Some q → AcksFine c hs w.state.network.sent w.state.register q
  pub cleans : (y : ℕ) → NodeClean y (node_at w.state y)
  pub copies : (y : ℕ) → NodeCopies w.made w.state.network.sent y (node_at w.state y)
  pub logs : Rising w.state.register.logs
  pub each : EachClosed w.state.register
  pub drawn : Drawn w.state.register w.state.network.sent
  pub within : (y : ℕ) → LostWithin w.state.register (node_at w.state y)
  pub lost_said : SaidLost w.state
  pub losses : AllLosses c w
  pub last : FoundBelow w.made
  pub in_sent : InSent c w.state.register w.joined w.made w.state.network.sent
  pub stored_of : StoredOf c w.state.register w.state.network.sent
  pub trimmed_of : TrimmedOf c w.state.register w.state.network.sent
  pub pages_of : PagesOf c w.state.register w.state.network.sent
  pub follow : SetsFollow w.joined w.state.register
  pub joined : JoinedFine w.joined w.state
  pub recovers : (t : List ℕ) (q : Sequencer) → find_named t w.state.sequencers ≡ Some q → OfLook (LookIn c w.state.register w.joined) q
  pub full : (y : ℕ) → FullNode (node_at w.state y)
  pub lows : PagesLow w.made w.state.network.sent
  pub marks : (y : ℕ) → MarkedNode c w.made w.state y (node_at w.state y)
  pub next : (t : List ℕ) (q : Sequencer) → find_named t w.state.sequencers ≡ Some q → NextOf q
  pub closed_how : (l e : ℕ) (y : Summary) → find e (epochs_of w.state.register l).summaries ≡ Some y → ClosedHow c hs w l e y

-- a plan above the one that closed its epoch
pub closed_last : (c : Config) (hs : List Happened) (w : World) → Along c hs w → ClosedLast c hs w.made w.state.network.sent w.state.register
closed_last c hs w R l e b y d f i lt = elim (R.closed_how l e y f) [ inl a ↦ a | inr a ↦ absurd (let z = a.above b d i in omega arith) ]

-- ---- the start ----
start_node : (y : ℕ) (ns : List ℕ) → unwrap_or (find y (new_nodes ns)) new_node ≡ new_node
unfolding find
start_node y [] = refl
start_node y (n ∷ ns) = start_or (is_at (nat_cmp y) n) (find y (new_nodes ns)) (start_node y ns) where
  start_or : (b : Bool) (o : Option Node) → unwrap_or o new_node ≡ new_node → unwrap_or (cond b (Some new_node) o) new_node ≡ new_node
  start_or true o i = refl
  start_or false o i = i

start_sound : (c : Config) → carried.Sound (Said [] [] empty_register) (TrimFine c [] [] empty_register) (CloseFine c [] [] [] empty_register) (Reached empty_register) (ShowFine c [] [] [] empty_register) (ReleaseFine c [] [] empty_register) (SaidHere [] [] empty_register) (LngFine c [] [] empty_register)
start_sound c = record {
  zero_trim = λ l n a b o. absurd (omega arith);
  place = λ l b n x s. s.given.place.above;
  reached = λ l b n x s. s.reached;
  closing_trim = λ l k y h. h.0;
  zero_closed = λ l. ((λ n a b o. absurd (omega arith)), inl (refl, refl, refl));
  zero_released = λ l. record { acked = λ n a b o. absurd (omega arith); closed = omega arith };
  kept = λ l b n x s. record { given = s.given; reached = s.reached; says = inl s.says };
  zero_good = λ l e n a b o. absurd (omega arith);
  good_below = λ l e g h. good_low c [] [] empty_register l e g h;
  whole = λ l b n x s. s.given.kept;
}

pub start_along : (c : Config) → Along c [] (begin c)
unfolding find_named find
start_along c = record {
  said = has.start_has _ _ _ _ _ _ (λ y l. (start_sound c).zero_released l) c (λ y. nodes.blank_ok (Said [] [] empty_register) (TrimFine c [] [] empty_register) (CloseFine c [] [] [] empty_register) (Reached empty_register) (ShowFine c [] [] [] empty_register) (ReleaseFine c [] [] empty_register) (SaidHere [] [] empty_register) (LngFine c [] [] empty_register) (start_sound c)) (λ l e y h. absurd (not_none h));
  ups = λ y. subst UpFine (sym (start_node y (members c.nodes))) (λ u. absurd cc);
  holds = λ y. subst (NodeHolds [] [] y) (sym (start_node y (members c.nodes))) (blank_holds [] [] y, tt);
  shows = λ l y b from upto t lng es n a i j e lo hi lt. absurd i;
  bounded = λ l y b from upto t lng es f i j. absurd i;
  below = λ l e b f i. absurd i;
  once = λ l e b d f i j. absurd i;
  recoveries = λ t v f. absurd (not_none f);
  plans = λ l e b f i. absurd i;
  stored_from = λ m b i. absurd i;
  acks = λ t q f. absurd (not_none f);
  cleans = λ y. subst (NodeClean y) (sym (start_node y (members c.nodes))) (start_clean y);
  copies = λ y. subst (NodeCopies [] [] y) (sym (start_node y (members c.nodes))) (start_copies y);
  logs = tt;
  each = start_each;
  drawn = λ m i. absurd i;
  within = λ y. subst (LostWithin empty_register) (sym (start_node y (members c.nodes))) (blank_within empty_register);
  lost_said = λ l y b n round g end i. absurd i;
  losses = λ l e b d i. absurd i;
  last = λ l e a g f d i. absurd i;
  in_sent = λ m i. absurd i;
  stored_of = λ l y n b i. absurd i;
  trimmed_of = λ l y b n t i. absurd i;
  pages_of = λ l y b from upto t lng es i. absurd i;
  follow = start_follow c;
  joined = λ l e y h. absurd cc;
  recovers = λ t q f. absurd (not_none f);
  full = λ y. subst FullNode (sym (start_node y (members c.nodes))) blank_full;
  lows = λ l e b d i. absurd i;
  marks = λ y. subst (MarkedNode c [] (start c) y) (sym (start_node y (members c.nodes))) (λ p q. elim q [ inl a ↦ subst (Marked c [] empty_register [] y) (sym a) (blank_marked c [] empty_register [] y) | inr a ↦ absurd (not_none a.1) ]);
  next = λ t q f. absurd (not_none f);
  closed_how = λ l e y f. absurd (not_none f);
}

-- ---- in short ----
abbrev pub BodySaidIn : Config → List Happened → World → ℕ → Who → Body → Type 0
BodySaidIn c hs w l from b = carried.BodyOk (Said hs w.made w.state.register) (TrimFine c hs w.state.network.sent w.state.register) (CloseFine c hs w.made w.state.network.sent w.state.register) (Reached w.state.register) (ShowFine c hs w.made w.state.network.sent w.state.register) (ReleaseFine c hs w.state.network.sent w.state.register) (SaidHere hs w.made w.state.register) (LngFine c hs w.state.network.sent w.state.register) l from b

abbrev pub PlainSaid : Config → List Happened → World → Plain → Type 0
PlainSaid c hs w p = carried.PlainOk (Said hs w.made w.state.register) (TrimFine c hs w.state.network.sent w.state.register) (CloseFine c hs w.made w.state.network.sent w.state.register) (Reached w.state.register) (ShowFine c hs w.made w.state.network.sent w.state.register) (ReleaseFine c hs w.state.network.sent w.state.register) (SaidHere hs w.made w.state.register) (LngFine c hs w.state.network.sent w.state.register) p

pub zero_release : (c : Config) (hs : List Happened) (w : World) (l : ℕ) → ReleaseFine c hs w.state.network.sent w.state.register l 0
zero_release c hs w l = record { acked = λ n a b o. absurd (omega arith); closed = omega arith }
