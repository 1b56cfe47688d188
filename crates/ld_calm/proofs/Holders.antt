-- Readers ask nodes of the configuration alone, and hold each of them at most once, with the round of its answer.
use Rattle.std.proofs.Common.{◌≡◌, ◌∙◌, ℕ, ◌+◌, inl, inr, refl, ap, sym, subst, Bool, true, false, ◌&&◌, nat_lt, List, [], ◌∷◌, Some}
use Rattle.std.specs.List.Sorted.{IsStrictlySortedBy}
use Rattle.ld_table.specs.Table.{find, put, Ordered}
use Rattle.ld_table.proofs.Order.{Ordered-put}
use Rattle.ld_table.specs.Named.{find_named, put_named}
use Rattle.ld_ids.specs.Choice.{nodes_of}
use Rattle.ld_config.specs.declared.config.Config.{Config}
use Rattle.ld_msg.specs.declared.msg.Msg.{Msg}
use Rattle.ld_msg.specs.declared.msg.Who.{Who}
use Rattle.ld_msg.specs.declared.msg.Who.TheVariants as whos
use Rattle.ld_msg.specs.declared.msg.Body.{Body}
use Rattle.ld_msg.specs.declared.msg.Body.TheVariants as bodies
use Rattle.ld_msg.specs.Register.{View}
use Rattle.ld_msg.specs.Reading.{Held, lost_held, within}
use Rattle.ld_msg.specs.Reader.{Reader, Read, polled, on_answer, confirms, sees_swap, look_of, start_asks, asks_of, asks_with, keys, round_ask, senders_of, last_round, round_of, is_newer, held_with, heard, is_full_poll, seen_nodes}
use Rattle.ld_machine.specs.Config.{looks_at}
use Rattle.ld_machine.specs.State.{State, posted}
use Rattle.ld_machine.specs.World.{World, In}
use Rattle.ld_machine.specs.Run.{after_step}
use Rattle.ld_machine.specs.Step as Step
use Rattle.ld_machine.specs.Calm as Calm
use Rattle.ld_machine.specs.Calm.{Move}
use Rattle.ld_safety.proofs.Lists.{not_none, only, cond_both, In-append}
use Rattle.ld_safety.proofs.Members.{In_put}
use Rattle.ld_safety.proofs.Events.{NamesOnce}
use Rattle.ld_safety.proofs.ReaderSteps.{answered, dropped_held}
use Rattle.ld_safety.proofs.LostBegins.{HeldLost, lost_in}
use Rattle.ld_safety.proofs.LostTalk.{Elsewhere, TalkKeeps, talked, new_or_old, same_readers}
use Rattle.ld_safety.proofs.LostRounds.{found_in, posted_to}

pub record HeldFine (all : List ℕ) (hs : List (ℕ × Held)) : Type 0 where
  pub once : Ordered hs
  pub rounds : (h : ℕ × Held) → In h hs → h.1.round ≡ round_of h.1.body
  pub nodes : (h : ℕ × Held) → In h hs → In h.0 all

pub none_held : (all : List ℕ) → HeldFine all []
unfolding IsStrictlySortedBy
none_held all = record { once = tt; rounds = λ h i. absurd i; nodes = λ h i. absurd i }

pub heard_fine : (all : List ℕ) (hs : List (ℕ × Held)) (y : ℕ) (b : Body) → HeldFine all hs → In y all → HeldFine all (held_with hs y b)
heard_fine all hs y b H i = cond_both (is_newer (find y hs) (round_of b)) (put y (record { round = round_of b; body = b }) hs) hs (HeldFine all) (λ t. record {
  once = Ordered-put y (record { round = round_of b; body = b }) hs H.once;
  rounds = λ h j. elim (In_put y (record { round = round_of b; body = b }) hs h j) [ inl e ↦ subst (λ (z : ℕ × Held). z.1.round ≡ round_of z.1.body) (sym e) refl | inr k ↦ H.rounds h k ];
  nodes = λ h j. elim (In_put y (record { round = round_of b; body = b }) hs h j) [ inl e ↦ subst (λ (z : ℕ × Held). In z.0 all) (sym e) i | inr k ↦ H.nodes h k ];
}) (λ t. H)

-- looks show nodes of these alone
abbrev pub LooksIn : List ℕ → (ℕ → View) → Type 0
LooksIn all looks = (e y : ℕ) → In y (nodes_of (looks e).spec) → In y all

asked_of : (b : Body) (ys : List ℕ) (x : ℕ × Body) → In x (asks_with b ys) → In x.0 ys
asked_of b [] x i = absurd i
asked_of b (y ∷ ys) x (inl e) = inl (ap (λ (z : ℕ × Body). z.0) e)
asked_of b (y ∷ ys) x (inr i) = inr (asked_of b ys x i)

key_of : (y : ℕ) (ks : List (ℕ × ℕ)) → In y (keys ks) → (g : ℕ) × In (y, g) ks
key_of y [] i = absurd i
key_of y (k ∷ ks) (inl e) = (k.1, inl (λ i. (e i, k.1)))
key_of y (k ∷ ks) (inr i) = let r = key_of y ks i in (r.0, inr r.1)

module _ (all : List ℕ) (looks : ℕ → View) (L : LooksIn all looks) where
  pub start_in : (full : Bool) (d : Reader) (x : ℕ × Body) → In x (start_asks full looks d) → In x.0 all
  start_in full d x i = cond_both (nat_lt d.round last_round) (asks_with (round_ask (senders_of full (look_of looks d) d) (d.round + 1) d.next) (nodes_of (look_of looks d).spec)) [] (λ bs. In x bs → In x.0 all) (λ t j. L _ x.0 (asked_of _ _ x j)) (λ t j. absurd j) i

  abbrev Fine : Read → Type 0
  Fine a = HeldFine all a.reader.held × ((x : ℕ × Body) → In x a.asks → In x.0 all)

  confirm_in : (a : Read) → Fine a → Fine (confirms looks a (lost_held a.reader.next (within (seen_nodes a.reader.seen) a.reader.held)))
  confirm_in a F = (
    dropped_held (HeldFine all) (none_held all) (sees_swap a.reader.seen (look_of looks a.reader)) a.reader.held F.0,
    λ x i. cond_both (sees_swap a.reader.seen (look_of looks a.reader)) (start_asks false looks a.reader) (asks_of (a.reader.round + 1) a.reader.next (keys (lost_held a.reader.next (within (seen_nodes a.reader.seen) a.reader.held)))) (λ bs. In x bs → In x.0 all)
        (λ t j. start_in false a.reader x j)
        (λ t j. let k = key_of x.0 (lost_held a.reader.next (within (seen_nodes a.reader.seen) a.reader.held)) (asked_of (bodies.ReadAsk (a.reader.round + 1) a.reader.next) (keys (lost_held a.reader.next (within (seen_nodes a.reader.seen) a.reader.held))) x j) in
        let h : HeldLost a.reader.next x.0 k.0 a.reader.held = lost_in a.reader.next x.0 k.0 (seen_nodes a.reader.seen) a.reader.held k.1 in
        subst (λ z. In z all) h.node (F.0.nodes h.answer h.there)) i,
  )

  pub answer_fine : (d : Reader) (y : ℕ) (b : Body) → HeldFine all d.held → In y all → Fine (on_answer looks d y b)
  answer_fine d y b H m = answered looks d y b Fine (record {
    starts = (heard_fine all d.held y b H m, λ x i. absurd i);
    ignored = λ t. (H, λ x i. absurd i);
    loss = λ t u. (heard_fine all d.held y b H m, λ x i. absurd i);
    swapped = λ t u. (dropped_held (HeldFine all) (none_held all) (nat_lt d.round last_round && sees_swap d.seen (look_of looks d)) (heard d y b).held (heard_fine all d.held y b H m), start_in false (heard d y b));
    trim = λ a i f l. i;
    record_there = λ a p i f l. i;
    hole_there = λ a i f l. i;
    plug = λ a i f l. i;
    bridge = λ a i f l. i;
    lossy_end = λ a i f l. i;
    confirm = λ a i f n l. confirm_in a i;
    asks_all = λ a i f. (dropped_held (HeldFine all) (none_held all) (nat_lt a.reader.round last_round && sees_swap a.reader.seen (look_of looks a.reader)) a.reader.held i.0, start_in true a.reader);
    polls_on = λ a i f. (
      dropped_held (HeldFine all) (none_held all) (nat_lt a.reader.round last_round && sees_swap a.reader.seen (look_of looks a.reader)) a.reader.held i.0,
      λ x j. elim (In-append x a.asks (start_asks false looks a.reader) j) [ inl k ↦ i.1 x k | inr k ↦ start_in false a.reader x k ],
    );
  })

  pub polled_fine : (d : Reader) → HeldFine all d.held → HeldFine all (polled looks d).held
  polled_fine d H = dropped_held (HeldFine all) (none_held all) (nat_lt d.round last_round && sees_swap d.seen (look_of looks d)) d.held H

-- ---- one step ----

pub record AsksHere (all : List ℕ) (m : Msg) : Type 0 where
  pub asked : (r n : ℕ) → m.from ≡ whos.Reader r → m.to ≡ whos.Node n → In n all
  pub came : (r : ℕ) → m.to ≡ whos.Reader r → In (Step.sender_node m.from) all

pub record Holders (all : List ℕ) (ms : List Msg) (ds : List (List ℕ × Reader)) : Type 0 where
  pub sent : (m : Msg) → In m ms → AsksHere all m
  pub held : (t : List ℕ) (d : Reader) → find_named t ds ≡ Some d → HeldFine all d.held

module _ (all : List ℕ) (c : Config) (s : State) (e : Move) (L : (t : List ℕ) (d : Reader) → find_named t s.readers ≡ Some d → LooksIn all (looks_at c s.register d.log)) (P : Holders all s.network.sent s.readers) where
  elsewhere_here : (m : Msg) → Elsewhere m → AsksHere all m
  elsewhere_here m h = record { asked = λ r n q t. absurd (h.whose r q); came = λ r q. absurd (let z : whos.Node h.node ≡ whos.Reader r = sym h.to ∙ q in cc) }

  posted_here : (who : Who) (l : ℕ) (bs : List (ℕ × Body)) → ((x : ℕ × Body) → In x bs → In x.0 all) → (m : Msg) → In m (posted who l bs) → AsksHere all m
  posted_here who l bs h m i = let p = posted_to who l bs m i in record {
    asked = λ r n q t. (let z : whos.Node p.0.0 ≡ whos.Node n = sym (ap (λ (y : Msg). y.to) p.2) ∙ t in let k : p.0.0 ≡ n = cc in subst (λ y. In y all) k (h p.0 p.1));
    came = λ r q. absurd (let z : whos.Node p.0.0 ≡ whos.Reader r = sym (ap (λ (y : Msg). y.to) p.2) ∙ q in cc);
  }

  answer_here : (n : ℕ) (m : Msg) (x : Body) → In m s.network.sent → m.to ≡ whos.Node n → AsksHere all (record { from = whos.Node n; to = m.from; log = m.log; body = x })
  answer_here n m x i t = record { asked = λ r k q u. absurd (let z : whos.Node n ≡ whos.Reader r = q in cc); came = λ r q. (P.sent m i).asked r n q t }

  put_held : (name : List ℕ) (x : Reader) → HeldFine all x.held → (t : List ℕ) (d : Reader) → find_named t (put_named name x s.readers) ≡ Some d → HeldFine all d.held
  put_held name x h t d f = elim (found_in t name x d s.readers f) [ inl a ↦ subst (λ (z : Reader). HeldFine all z.held) a.1 h | inr a ↦ P.held t d a.1 ]

  holders_talk : TalkKeeps c s e (Holders all)
  holders_talk = record {
    quiet = record { sent = λ m i. absurd i; held = P.held };
    elsewhere = λ ms h. record { sent = λ m i. elsewhere_here m (h m i); held = P.held };
    answers = λ n m x i t v h. record { sent = λ k j. subst (AsksHere all) (sym (only k _ j)) (answer_here n m x i t); held = P.held };
    reads = λ name d m i t v. let looks = looks_at c s.register d.log in let y = Step.sender_node m.from in let F = answer_fine all looks (L name d v.named) d y m.body (P.held name d v.named) ((P.sent m i).came d.number t) in
        record { sent = posted_here _ _ _ F.1; held = put_held name _ F.0 };
    polls = λ name d v. record { sent = posted_here _ _ _ (start_in all (looks_at c s.register d.log) (L name d v.named) (is_full_poll d) d); held = put_held name _ (polled_fine all (looks_at c s.register d.log) (L name d v.named) d (P.held name d v.named)) };
    opens = λ style name l from until o. record { sent = λ m i. absurd i; held = put_held name _ (none_held all) };
  }

-- each step keeps it, where looks at the readers' logs show nodes of the configuration
pub holders_step : (all : List ℕ) (c : Config) (w : World) (e : Move) → NamesOnce w.state → ((t : List ℕ) (d : Reader) → find_named t w.state.readers ≡ Some d → LooksIn all (looks_at c w.state.register d.log)) → Holders all w.state.network.sent w.state.readers
    → Holders all (after_step c w e).state.network.sent (after_step c w e).state.readers
holders_step all c w e N L P =
    let t = talked c w.state e (Holders all) (holders_talk all c w.state e L P) N in
    subst (Holders all (after_step c w e).state.network.sent) (sym (same_readers (Calm.moves c w.state e)))
    (record { sent = λ m i. elim (new_or_old c w.state e m t.same i) [ inl k ↦ P.sent m k | inr k ↦ t.talk.sent m k ]; held = t.talk.held })

pub start_holders : (all : List ℕ) → Holders all [] []
unfolding find_named
start_holders all = record { sent = λ m i. absurd i; held = λ t d f. absurd (not_none f) }
