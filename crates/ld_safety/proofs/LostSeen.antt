-- What a reader's last look showed of an epoch that was handed out by then is what is fixed for it.
use Rattle.std.proofs.Common.{◌≡◌, ◌∙◌, ◌≤◌, ◌<◌, ℕ, inl, inr, ap, sym, subst, true, ◌==◌, nat_le, List, length, Option, Some, None, arith}
use Rattle.std.proofs.lemmas.Bool.{and_parts, eqb-true, leb-true}
use Rattle.ld_table.specs.Named.{find_named, put_named}
use Rattle.ld_config.specs.declared.config.Config.{Config}
use Rattle.ld_msg.specs.Register.{Register, View, epochs_of, look}
use Rattle.ld_msg.specs.Reader.{Reader, opened, polled, on_answer, seen_nodes, has_seen, shown_swaps}
use Rattle.ld_machine.specs.Config.{looks_at, set_at}
use Rattle.ld_machine.specs.State.{State, finish}
use Rattle.ld_machine.specs.World.{World, begin}
use Rattle.ld_machine.specs.Run.{after_step}
use Rattle.ld_machine.specs.Step as Step
use Rattle.ld_safety.proofs.Lists.{not_none}
use Rattle.ld_safety.proofs.Events.{NamesOnce}
use Rattle.ld_safety.proofs.Registers.{Up, OnlyClosed, follows}
use Rattle.ld_safety.proofs.Joins.{CountStep, counts_step}
use Rattle.ld_safety.proofs.LostReads.{SeenBy, polled_seen, read_on}
use Rattle.ld_safety.proofs.LostTalk.{TalkKeeps, talked}
use Rattle.ld_safety.proofs.LostRounds.{found_in}
use Rattle.ld_machine.specs.Calm as Calm
use Rattle.ld_machine.specs.Calm.{Move}

-- what a look showed: the nodes of an epoch as they are now, where no swap has been since
pub record Shows (c : Config) (r : Register) (l : ℕ) (o : Option View) : Type 0 where
  pub epoch : (e : ℕ) → has_seen e o ≡ true → e ≤ (epochs_of r l).epoch
  pub count : shown_swaps o ≤ (epochs_of r l).swaps
  pub nodes : (e : ℕ) → 0 < e → has_seen e o ≡ true → shown_swaps o ≡ (epochs_of r l).swaps → seen_nodes o ≡ set_at c r l e

none_shows : (c : Config) (r : Register) (l : ℕ) → Shows c r l None
none_shows c r l = record { epoch = λ e h. absurd cc; count = omega arith; nodes = λ e p h. absurd cc }

look_shows : (c : Config) (r : Register) (l e : ℕ) → Shows c r l (Some (looks_at c r l e))
unfolding look
look_shows c r l e = record {
  epoch = λ k h. leb-true k (epochs_of r l).epoch (and_parts (e == k) (nat_le k (epochs_of r l).epoch) h).1;
  count = omega arith;
  nodes = λ k p h q. ap (set_at c r l) (eqb-true e k (and_parts (e == k) (nat_le k (epochs_of r l).epoch) h).0);
}

pub seen_shows : (c : Config) (r : Register) (d : Reader) (o : Option View) → Shows c r d.log d.seen → SeenBy (looks_at c r d.log) d o → Shows c r d.log o
seen_shows c r d o h (inl q) = subst (Shows c r d.log) (sym q) h
seen_shows c r d o h (inr q) = subst (Shows c r d.log) (sym q.1) (look_shows c r d.log q.0)

-- it stays so
pub shows_later : (c : Config) (r n : Register) (l : ℕ) (o : Option View) → Up r n → CountStep c r n l → Shows c r l o → Shows c n l o
shows_later c r n l o u s h = record {
  epoch = λ e t. let a = h.epoch e t in let b = (u l).0 in omega arith;
  count = let a = h.count in let b = s.rises in omega arith;
  nodes = λ e p t q. (let a = h.count in let b = s.rises in let k : shown_swaps o ≡ (epochs_of r l).swaps = omega arith in h.nodes e p t k ∙ sym (s.same (omega arith) e (p, h.epoch e t)));
}

abbrev pub AllShow : Config → Register → List (List ℕ × Reader) → Type 0
AllShow c r ds = (t : List ℕ) (d : Reader) → find_named t ds ≡ Some d → Shows c r d.log d.seen

module _ (c : Config) (s : State) (e : Move) (A : AllShow c s.register s.readers) where
  put_shows : (name : List ℕ) (x : Reader) → Shows c s.register x.log x.seen → AllShow c s.register (put_named name x s.readers)
  put_shows name x h t z f = elim (found_in t name x z s.readers f) [ inl a ↦ subst (λ (y : Reader). Shows c s.register y.log y.seen) a.1 h | inr a ↦ A t z a.1 ]

  shows_talk : TalkKeeps c s e (λ ms ds. AllShow c s.register ds)
  shows_talk = record {
    quiet = A;
    elsewhere = λ ms h. A;
    answers = λ n m x i t v h. A;
    reads = λ name d m i t v. let G = read_on (looks_at c s.register d.log) d (Step.sender_node m.from) m.body v.open_still in let x = (on_answer (looks_at c s.register d.log) d (Step.sender_node m.from) m.body).reader in
        put_shows name x (subst (λ l. Shows c s.register l x.seen) (sym G.log) (seen_shows c s.register d x.seen (A name d v.named) G.seen));
    polls = λ name d v. let x = polled (looks_at c s.register d.log) d in put_shows name x (seen_shows c s.register d x.seen (A name d v.named) (polled_seen (looks_at c s.register d.log) d));
    opens = λ style name l from until o. put_shows name (opened style l (length s.readers) from until) (none_shows c s.register l);
  }

pub shows_step : (c : Config) (w : World) (e : Move) → NamesOnce w.state → OnlyClosed w.state.register → AllShow c w.state.register w.state.readers → AllShow c (after_step c w e).state.register (after_step c w e).state.readers
unfolding finish
shows_step c w e N O A t d f = shows_later c w.state.register (Calm.moves c w.state e).state.register d.log d.seen (follows c w.state e N O).0 (counts_step c w.state e N (follows c w.state e N O).0 d.log) ((talked c w.state e (λ ms ds. AllShow c w.state.register ds) (shows_talk c w.state e A) N).talk t d f)

pub start_shows : (c : Config) → AllShow c (begin c).state.register (begin c).state.readers
unfolding find_named
start_shows c t d f = absurd (not_none f)
