-- A delivery of a reader's ask to a node leaves the reader in its round: the node's answer is under way then.
use Rattle.std.proofs.Common.{◌≡◌, ◌∙◌, ◌≤◌, ℕ, inl, inr, refl, ap, sym, subst, List, Some}
use Rattle.ld_table.specs.Named.{find_named}
use Rattle.ld_ids.specs.Choice.{nodes_of}
use Rattle.ld_config.specs.declared.config.Config.{Config}
use Rattle.ld_schedule.specs.declared.event.Event.TheVariants as events
use Rattle.ld_lsn.specs.Number.{home_epoch}
use Rattle.ld_msg.specs.declared.msg.Who.TheVariants as whos
use Rattle.ld_msg.specs.declared.msg.Msg.{Msg}
use Rattle.ld_msg.specs.Network.{message}
use Rattle.ld_msg.specs.Register.{Register}
use Rattle.ld_msg.specs.Reader.{Reader}
use Rattle.ld_op.specs.Plain.{log_of}
use Rattle.ld_machine.specs.Config.{all_nodes, looks_at}
use Rattle.ld_machine.specs.Disk.{Node}
use Rattle.ld_machine.specs.State.{State, finish, node_at}
use Rattle.ld_machine.specs.World.{In}
use Rattle.ld_machine.specs.Calm.{Takes, moves, moved}
use Rattle.ld_safety.proofs.Lists.{only}
use Rattle.ld_served.proofs.UnderWay.{UnderWay, delivery_takes, delivery_adds}
use Rattle.ld_served.proofs.Kept.{Good}
use Rattle.ld_served.proofs.Readers.{ReadersHere}
use Rattle.ld_served.proofs.Asked.{Answered, ask_answered, same_answer, delivery_only}
use Rattle.ld_served.proofs.InRound.{set_now, ask_of, answer_of, Goes, is_asked, answers, is_held, Mine, Surely, all_send, one_sends, lost_sends, InRound}

module _ (c : Config) (s : State) (A : Good c s) (H : ReadersHere c s) (name : List ℕ) (d : Reader) (found : find_named name s.readers ≡ Some d) (R : InRound c s d) (i : ℕ) (k : Msg) (is : message s.network i ≡ Some k)
    (y round : ℕ) (member : In y (all_nodes c)) (low : R.low ≤ round) (high : round ≤ d.round) (ask : k ≡ ask_of d R.senders R.mid y round) where
  abbrev t : State
  t = (moved c s (Takes (events.Deliver i))).state

  now : Answered s (answer_of s d R.senders R.mid y round) (moves c s (Takes (events.Deliver i)))
  now = ask_answered c s A i d.log d.number R.senders R.mid d.next y round member (H.log name d found) (is ∙ ap Some ask)

  nodes : (x : ℕ) → node_at t x ≡ node_at s x
  unfolding finish
  nodes x = now.nodes x

  register : t.register ≡ s.register
  unfolding finish
  register = now.register

  answer_same : (x n : ℕ) → answer_of t d R.senders R.mid x n ≡ answer_of s d R.senders R.mid x n
  answer_same x n = ap (λ b. record { from = whos.Node x; to = whos.Reader d.number; log = d.log; body = b }) (same_answer s t d.log R.senders R.mid d.next x n (nodes x))

  set_same : (x : ℕ) → In x (set_now c t d) → In x (set_now c s d)
  set_same x = subst (λ (r : Register). In x (nodes_of (looks_at c r d.log (home_epoch d.next)).spec) → In x (set_now c s d)) (sym register) (λ j. j)

  set_back : (x : ℕ) → In x (set_now c s d) → In x (set_now c t d)
  set_back x = subst (λ (r : Register). In x (set_now c s d) → In x (nodes_of (looks_at c r d.log (home_epoch d.next)).spec)) (sym register) (λ j. j)

  -- the answer is under way
  answered : (x n : ℕ) → k ≡ ask_of d R.senders R.mid x n → In x (all_nodes c) → UnderWay t.network (answer_of t d R.senders R.mid x n)
  answered x n e m = subst (UnderWay t.network) (sym (answer_same x n)) (delivery_adds c s H.names H.places i k (answer_of s d R.senders R.mid x n) is
      (let z = ask_answered c s A i d.log d.number R.senders R.mid d.next x n m (H.log name d found) (is ∙ ap Some e) in subst (In (answer_of s d R.senders R.mid x n)) (sym z.sends) (inl refl)))

  goes : (from x : ℕ) → In x (all_nodes c) → Goes s d R.senders R.mid from x → Goes t d R.senders R.mid from x
  goes from x m (is_asked n h u) = elim (delivery_takes c s H.names H.places i k (ask_of d R.senders R.mid x n) is u) [
    | inl e ↦ answers n h (answered x n (sym e) m)
    | inr v ↦ is_asked n h v
  ]
  goes from x m (answers n h u) = elim (delivery_takes c s H.names H.places i k (answer_of s d R.senders R.mid x n) is u) [
    | inl e ↦ absurd (let z : whos.Node x ≡ whos.Reader d.number = ap (λ (q : Msg). q.from) (e ∙ ask) in cc)
    | inr v ↦ answers n h (subst (UnderWay t.network) (sym (answer_same x n)) v)
  ]
  goes from x m (is_held h f l) = is_held h f l

  in_all : (x : ℕ) → In x (set_now c s d) → In x (all_nodes c)
  in_all x j = H.looks name d found (home_epoch d.next) x j

  surely : Surely c s d R.senders R.low R.mid → Surely c t d R.senders R.low R.mid
  surely (all_send g) = all_send (λ x j. let a = set_same x j in goes R.mid x (in_all x a) (g x a))
  surely (one_sends e z w f m l) = one_sends e (z ∙ sym (ap (λ (r : Register). (looks_at c r d.log (home_epoch d.next)).spec.set) register)) w f m l
  surely (lost_sends x j g w) = lost_sends x (set_back x j) (goes R.mid x (in_all x j) g) (w.0, subst (λ (z : Node). home_epoch d.next ≤ (log_of z.plain d.log).lost_to) (sym (nodes x)) w.1)

  still_mine : (m : Msg) → Mine c s d R.senders R.low R.mid m → Mine c t d R.senders R.low R.mid m
  still_mine m M = record { node = M.node; round = M.round; member = M.member; from = M.from; upto = M.upto; is = elim M.is [ inl e ↦ inl e | inr e ↦ inr (e ∙ sym (answer_same M.node M.round)) ] }

  pub ask_comes : InRound c t d
  ask_comes = record {
    low = R.low;
    mid = R.mid;
    senders = R.senders;
    unfinished = R.unfinished;
    seen = R.seen ∙ sym (ap (λ (r : Register). Some (looks_at c r d.log (home_epoch d.next))) register);
    lower = R.lower;
    upper = R.upper;
    begun = R.begun;
    least = R.least;
    only = λ m u. elim (delivery_only c s H.names H.places i k m is u) [
      | inl v ↦ still_mine m (R.only m v)
      | inr j ↦ record { node = y; round = round; member = member; from = low; upto = high; is = inr (only m (answer_of s d R.senders R.mid y round) (subst (In m) now.sends j) ∙ sym (answer_same y round)) }
    ];
    held = λ h j l. (let z = R.held h j l in (z.0 ∙ sym (same_answer s t d.log R.senders R.mid d.next h.0 h.1.round (nodes h.0)), z.1));
    each = λ x j. (let a = set_same x j in goes R.low x (in_all x a) (R.each x a));
    sure = surely R.sure;
    not_yet = λ x j n. absurd (n (answer_of t d R.senders R.mid y round) (answered y round ask member));
  }

  -- and no reader is another one
  pub same_readers : t.readers ≡ s.readers
  unfolding finish
  same_readers = now.readers
