-- A number that a step calls lost where it completes a confirmation: a step before sent the confirming asks.
use Rattle.std.proofs.Common.{◌≡◌, ◌∙◌, ℕ, inl, inr, refl, ap, sym, subst, true, List, [], ◌∷◌, ◌++◌, Option, Some, None, append_assoc, append-nil}
use Rattle.ld_table.specs.Named.{find_named}
use Rattle.ld_config.specs.declared.config.Config.{Config}
use Rattle.ld_transcript.specs.declared.line.Line.TheVariants as lines
use Rattle.ld_transcript.specs.declared.line.GapKind.TheVariants as gaps
use Rattle.ld_msg.specs.declared.msg.Body.{Body}
use Rattle.ld_msg.specs.Reader.{Reader, Confirmation, heard, is_confirmed}
use Rattle.ld_machine.specs.World.{World, In, begin}
use Rattle.ld_machine.specs.Losses.{IsBefore, IsConfirming, Completes}
use Rattle.ld_machine.specs.Run.{Move, after_step, world_after, step_happened}
use Rattle.ld_machine.specs.Step as Step
use Rattle.ld_safety.specs.Lost.{LossesWereAsked}
use Rattle.ld_safety.proofs.Lists.{not_none}
use Rattle.ld_safety.proofs.Traces.{later}
use Rattle.ld_safety.proofs.Events.{NamesOnce}
use Rattle.ld_safety.proofs.Base.{Base, base_kept}
use Rattle.ld_safety.proofs.LostReads.{heard_lasts}
use Rattle.ld_safety.proofs.LostBegins.{came}

after-append : (c : Config) (w : World) (ms ns : List Move) → world_after c w (ms ++ ns) ≡ world_after c (world_after c w ms) ns
unfolding world_after
after-append c w [] ns = refl
after-append c w (m ∷ ms) ns = after-append c (after_step c w m) ms ns

names_at : (c : Config) (ms : List Move) → NamesOnce (world_after c (begin c) ms).state
names_at c ms = (later c (Base c) (base_kept c) [] (begin c) ms (base_kept c).begins).0.0

-- the step that sent the asks of a round, with those before it and after it
record Asked (c : Config) (before : List Move) (name : List ℕ) (s round : ℕ) : Type 0 where
  earlier : List Move
  asks : Move
  between : List Move
  split : before ≡ earlier ++ asks ∷ between
  not_yet : IsBefore (world_after c (begin c) earlier) name round
  asked : IsConfirming (after_step c (world_after c (begin c) earlier) asks) name s round

-- each confirmation of a state has one
abbrev AllAsked : Config → List Move → World → Type 0
AllAsked c before w = (name : List ℕ) (x : Reader) (v : Confirmation) → find_named name w.state.readers ≡ Some x → x.confirming ≡ Some v → Asked c before name x.next v.round

asked_later : (c : Config) (before : List Move) (m : Move) (name : List ℕ) (s round : ℕ) → Asked c before name s round → Asked c (before ++ m ∷ []) name s round
asked_later c before m name s round a = record {
  earlier = a.earlier;
  asks = a.asks;
  between = a.between ++ m ∷ [];
  split = ap (λ (z : List Move). z ++ m ∷ []) a.split ∙ append_assoc a.earlier (a.asks ∷ a.between) (m ∷ []);
  not_yet = a.not_yet;
  asked = a.asked;
}

asked_on : (c : Config) (before : List Move) (m : Move) → AllAsked c before (world_after c (begin c) before) → AllAsked c (before ++ m ∷ []) (after_step c (world_after c (begin c) before) m)
asked_on c before m A name x v f h = elim (came c (world_after c (begin c) before) m (names_at c before) name x v f h) [
  | inl o ↦ asked_later c before m name x.next v.round (subst (λ k. Asked c before name k v.round) (sym o.next) (subst (λ k. Asked c before name o.reader.next k) (sym o.round) (A name o.reader o.before o.named o.was)))
  | inr n ↦ record {
    earlier = before;
    asks = m;
    between = [];
    split = refl;
    not_yet = record { reader = n.reader; there = n.named; lower = n.higher };
    asked = record { reader = x; there = f; next = refl; confirmation = v; lasts = h; here = refl };
  }
]

all_asked : (c : Config) (before ms : List Move) → AllAsked c before (world_after c (begin c) before) → AllAsked c (before ++ ms) (world_after c (begin c) (before ++ ms))
unfolding world_after
all_asked c before [] A = subst (λ (z : List Move). AllAsked c z (world_after c (begin c) z)) (sym (append-nil before)) A
all_asked c before (m ∷ ms) A = subst (λ (z : List Move). AllAsked c z (world_after c (begin c) z)) (append_assoc before (m ∷ []) ms)
    (all_asked c (before ++ m ∷ []) ms (subst (AllAsked c (before ++ m ∷ [])) (sym (one_more c before m)) (asked_on c before m A))) where
      one_more : (c : Config) (before : List Move) (m : Move) → world_after c (begin c) (before ++ m ∷ []) ≡ after_step c (world_after c (begin c) before) m
      one_more c before m = after-append c (begin c) before (m ∷ [])

start_asked : (c : Config) → AllAsked c [] (world_after c (begin c) [])
unfolding find_named world_after
start_asked c name x v f h = absurd (not_none f)

-- a confirmation that an answer completes was there before
confirmation_of : (d : Reader) (y : ℕ) (b : Body) (o : Option Confirmation) → (heard d y b).confirming ≡ o → is_confirmed o ≡ true → (v : Confirmation) × (d.confirming ≡ Some v)
confirmation_of d y b None e h = absurd cc
confirmation_of d y b (Some u) e h = let o = heard_lasts d y b u e in (o.before, o.was)

-- what the second step needs of the world that it is in
abbrev Confirms : Config → List ℕ → ℕ → ℕ → ℕ → Move → World → Type 0
Confirms c name l s round gives w = (k : IsConfirming w name s round) × (k.reader.log ≡ l) × Completes w k.reader gives × In (lines.Gap name gaps.DataLoss s s) (step_happened c w.state gives).lines

pub losses_were_asked : LossesWereAsked
unfolding world_after
losses_were_asked c name s before gives d f i C q =
    let v = confirmation_of d (Step.sender_node C.answer.from) C.answer.body (heard d (Step.sender_node C.answer.from) C.answer.body).confirming refl C.complete in
    let a : Asked c before name d.next v.0.round = all_asked c [] before (start_asked c) name d v.0 f v.1 in
    let then : world_after c (begin c) before ≡ world_after c (after_step c (world_after c (begin c) a.earlier) a.asks) a.between = ap (world_after c (begin c)) a.split ∙ after-append c (begin c) a.earlier (a.asks ∷ a.between) in
    let k = subst (Confirms c name d.log s v.0.round gives) then (record { reader = d; there = f; next = sym q; confirmation = v.0; lasts = v.1; here = refl }, refl, C, i) in
    record {
      round = v.0.round;
      earlier = a.earlier;
      asks = a.asks;
      between = a.between;
      split = a.split;
      ends = record {
        not_yet = a.not_yet;
        asked = subst (λ n. IsConfirming (after_step c (world_after c (begin c) a.earlier) a.asks) name n v.0.round) (sym q) a.asked;
        still = k.0;
        of_log = k.1;
        completes = k.2;
        told = k.3;
      };
    }
