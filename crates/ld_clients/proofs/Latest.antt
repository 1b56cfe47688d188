-- The sequencer of the greatest epoch, in the machine and here.
use Rattle.std.proofs.Common.{◌≡◌, ◌≤◌, ◌∙◌, ℕ, length, ◌+◌, ◌==◌, Bool, true, false, List, [], ◌∷◌, drop, Option, Some, None, option_map, refl, ap, sym, subst, cond, nat_lt, slice_get}
use Rattle.std.proofs.lemmas.List.{drop_all}
use Rattle.ld_table.proofs.Places.{drop_at_place}
use Rattle.ld_clients.specs.declared.client.Client.{Client}
use Rattle.ld_clients.specs.declared.client.Client.TheVariants.{Live, Gone}
use Rattle.ld_sequencer.specs.Whole.{Whole}
use Rattle.ld_config.specs.declared.config.Config.{Config}
use Rattle.ld_msg.specs.Sequencer.{Sequencer}
use Rattle.ld_machine.specs.State.{State}
use Rattle.ld_machine.specs.Calm.{Calms, Left, Next, announces, goes, last_in, last_of, later_of}
use Rattle.ld_clients.specs.Acting.{AreSequencers}
use Rattle.ld_clients.specs.Names.{each_as}
use Rattle.ld_clients.specs.Serving.{log_in, epoch_in, faded, sequencers_of, shown, IsWhole, IsWholeIn}
use Rattle.ld_clients.specs.Latest.{later_client, last_client, client_at, later_at, live_of, or_later}
use Rattle.ld_clients.proofs.Fading.{as_faded, log_at, epoch_at, gone_at}
use Rattle.ld_clients.proofs.Serving.{as_shown, log_shown, epoch_shown}

-- the epoch of what was found
abbrev pub EpochOf : Option (ℕ × ℕ) → Option (List ℕ × Client) → Type 0
EpochOf None o = Unit {0}
EpochOf (Some last) None = ⊥
EpochOf (Some last) (Some k) = epoch_in k.1 ≡ last.1

-- up to this offset the last one is that one, of that epoch
pub record Looked (l : ℕ) (ks : List (List ℕ × Client)) (place : ℕ) (last : Option (ℕ × ℕ)) : Type 0 where
  pub found : last_client l (client_at last ks) (drop place ks) ≡ last_client l None ks
  pub epoch : EpochOf last (client_at last ks)

pub looked_start : (l : ℕ) (ks : List (List ℕ × Client)) → Looked l ks 0 None
looked_start l ks = record { found = refl; epoch = tt }

-- the one found, once this one was looked at
next_in : (ks : List (List ℕ × Client)) (place : ℕ) (k : List ℕ × Client) (b : Bool) (last : Option (ℕ × ℕ)) (o : Option (List ℕ × Client)) → slice_get ks place ≡ Some k → client_at last ks ≡ o → EpochOf last o
    → client_at (cond b (or_later last place (epoch_in k.1)) last) ks ≡ cond b (later_client o k) o
next_in ks place k false last o e f h = f
next_in ks place k true None None e f h = e
next_in ks place k true None (Some x) e f h = absurd cc
next_in ks place k true (Some last) None e f h = absurd h
next_in ks place k true (Some last) (Some x) e f h = ap (λ n. client_at (cond (nat_lt n (epoch_in k.1)) (Some (place, epoch_in k.1)) (Some last)) ks) (sym h) ∙ by (nat_lt (epoch_in x.1) (epoch_in k.1)) where
  by : (t : Bool) → client_at (cond t (Some (place, epoch_in k.1)) (Some last)) ks ≡ cond t (Some k) (Some x)
  by true = e
  by false = f

epoch_next : (ks : List (List ℕ × Client)) (place : ℕ) (k : List ℕ × Client) (b : Bool) (last : Option (ℕ × ℕ)) → slice_get ks place ≡ Some k → EpochOf last (client_at last ks)
    → EpochOf (cond b (or_later last place (epoch_in k.1)) last) (client_at (cond b (or_later last place (epoch_in k.1)) last) ks)
epoch_next ks place k false last e h = h
epoch_next ks place k true None e h = subst (λ o. EpochOf (Some (place, epoch_in k.1)) o) (sym e) refl
epoch_next ks place k true (Some last) e h = by (nat_lt last.1 (epoch_in k.1)) where
  by : (t : Bool) → EpochOf (cond t (Some (place, epoch_in k.1)) (Some last)) (client_at (cond t (Some (place, epoch_in k.1)) (Some last)) ks)
  by true = subst (λ o. EpochOf (Some (place, epoch_in k.1)) o) (sym e) refl
  by false = h

pub looked_on : (l : ℕ) (ks : List (List ℕ × Client)) (place : ℕ) (k : List ℕ × Client) (last new : Option (ℕ × ℕ)) → slice_get ks place ≡ Some k → new ≡ later_at l last place k.1 → Looked l ks place last → Looked l ks (place + 1) new
looked_on l ks place k last new e n h = subst (Looked l ks (place + 1)) (sym n) (record {
  found = ap (λ o. last_client l o (drop (place + 1) ks)) (next_in ks place k (log_in k.1 == l) last (client_at last ks) e refl h.epoch)
      ∙ (sym (ap (last_client l (client_at last ks)) (drop_at_place ks place k e)) ∙ h.found);
  epoch = epoch_next ks place k (log_in k.1 == l) last e h.epoch;
})

pub looked_all : (l : ℕ) (ks : List (List ℕ × Client)) (place : ℕ) (last : Option (ℕ × ℕ)) → length ks ≤ place → Looked l ks place last → client_at last ks ≡ last_client l None ks
looked_all l ks place last e h = ap (last_client l (client_at last ks)) (sym (drop_all place ks e)) ∙ h.found

-- ---- as the machine has it ----

cond_shown : (b : Bool) (x y : Option (List ℕ × Client)) → cond b (option_map as_shown x) (option_map as_shown y) ≡ option_map as_shown (cond b x y)
cond_shown true x y = refl
cond_shown false x y = refl

later_shown : (o : Option (List ℕ × Client)) (k : List ℕ × Client) → later_of (option_map as_shown o) (as_shown k) ≡ option_map as_shown (later_client o k)
later_shown None k = refl
later_shown (Some p) k = (λ i. cond (nat_lt (epoch_shown p.1 i) (epoch_shown k.1 i)) (Some (as_shown k)) (Some (as_shown p))) ∙ cond_shown (nat_lt (epoch_in p.1) (epoch_in k.1)) (Some k) (Some p)

pub last_shown : (l : ℕ) (o : Option (List ℕ × Client)) (ks : List (List ℕ × Client)) → last_in l (option_map as_shown o) (sequencers_of ks) ≡ option_map as_shown (last_client l o ks)
last_shown l o [] = refl
last_shown l o (k ∷ ks) = ap (λ x. last_in l x (sequencers_of ks)) ((λ i. cond (log_shown k.1 i == l) (later_shown o k i) (option_map as_shown o)) ∙ cond_shown (log_in k.1 == l) (later_client o k) o)
    ∙ last_shown l (cond (log_in k.1 == l) (later_client o k) o) ks

last_named : (l : ℕ) (ks : List (List ℕ × Client)) (o : Option (List ℕ × Client)) → last_client l None ks ≡ o → live_of (option_map as_shown o) ≡ live_of (last_in l None (sequencers_of ks))
last_named l ks o e = sym (ap live_of (last_shown l None ks ∙ ap (option_map as_shown) e))

-- there is none, it is at work, or it was dropped
pub last_none : (l : ℕ) (ks : List (List ℕ × Client)) → None ≡ last_client l None ks → None ≡ live_of (last_in l None (sequencers_of ks))
last_none l ks e = last_named l ks None (sym e)

pub last_live : (l : ℕ) (ks : List (List ℕ × Client)) (name : List ℕ) (k : Client) → Some (name, k) ≡ last_client l None ks → (shown k).gone ≡ false → Some name ≡ live_of (last_in l None (sequencers_of ks))
last_live l ks name k e g = ap (λ b. cond b None (Some name)) (sym g) ∙ last_named l ks (Some (name, k)) (sym e)

pub last_gone : (l : ℕ) (ks : List (List ℕ × Client)) (name : List ℕ) (k : Client) → Some (name, k) ≡ last_client l None ks → (shown k).gone ≡ true → None ≡ live_of (last_in l None (sequencers_of ks))
last_gone l ks name k e g = ap (λ b. cond b None (Some name)) (sym g) ∙ last_named l ks (Some (name, k)) (sym e)

-- whether it was dropped, by what it is
pub is_live : (k : Client) (w : Whole) → IsWholeIn k → k ≡ Live w → false ≡ (shown k).gone
is_live k w i is = subst (λ (x : Client). false ≡ (shown x).gone) (sym is) (let t : IsWhole w = subst IsWholeIn is i in sym t.live)

pub is_gone : (k : Client) (log epoch : ℕ) → k ≡ Gone log epoch → true ≡ (shown k).gone
is_gone k log epoch is = subst (λ (x : Client). true ≡ (shown x).gone) (sym is) refl

pub ruleset gone_rules = (is_live, is_gone)

cond_faded : (b : Bool) (x y : Option (List ℕ × Sequencer)) → cond b (option_map as_faded x) (option_map as_faded y) ≡ option_map as_faded (cond b x y)
cond_faded true x y = refl
cond_faded false x y = refl

later_faded : (o : Option (List ℕ × Sequencer)) (q : List ℕ × Sequencer) → later_of (option_map as_faded o) (as_faded q) ≡ option_map as_faded (later_of o q)
later_faded None q = refl
later_faded (Some p) q = (λ i. cond (nat_lt (epoch_at p.1.gone p.1 i) (epoch_at q.1.gone q.1 i)) (Some (as_faded q)) (Some (as_faded p))) ∙ cond_faded (nat_lt p.1.epoch q.1.epoch) (Some q) (Some p)

last_faded : (l : ℕ) (o : Option (List ℕ × Sequencer)) (qs : List (List ℕ × Sequencer)) → last_in l (option_map as_faded o) (each_as faded qs) ≡ option_map as_faded (last_in l o qs)
last_faded l o [] = refl
last_faded l o (q ∷ qs) = ap (λ x. last_in l x (each_as faded qs)) ((λ i. cond (log_at q.1.gone q.1 i == l) (later_faded o q i) (option_map as_faded o)) ∙ cond_faded (q.1.log == l) (later_of o q) o)
    ∙ last_faded l (cond (q.1.log == l) (later_of o q) o) qs

live_faded : (o : Option (List ℕ × Sequencer)) → live_of (option_map as_faded o) ≡ live_of o
live_faded None = refl
live_faded (Some q) = ap (λ b. cond b None (Some q.0)) (gone_at q.1.gone q.1 refl)

-- the one whose name this is retries
abbrev pub announces_name : Option (List ℕ) → List Left → Option Next → Option Next
announces_name None ps other = other
announces_name (Some name) ps other = goes (Calms name) ps

by_name : (o : Option (List ℕ × Sequencer)) (ps : List Left) (other : Option Next) → announces o ps other ≡ announces_name (live_of o) ps other
by_name None ps other = refl
by_name (Some q) ps other = named q.1.gone where
  named : (b : Bool) → cond b other (goes (Calms q.0) ps) ≡ announces_name (cond b None (Some q.0)) ps other
  named true = refl
  named false = refl

-- a log's last sequencer, in the machine and here
pub announced_last : (c : Config) (s : State) (ks : List (List ℕ × Client)) (l : ℕ) (ps : List Left) (other : Option Next) → AreSequencers c s ks → announces (last_of s l) ps other ≡ announces_name (live_of (last_in l None (sequencers_of ks))) ps other
announced_last c s ks l ps other a = by_name (last_of s l) ps other
    ∙ ap (λ o. announces_name o ps other) (sym (live_faded (last_in l None s.sequencers)) ∙ (ap live_of (sym (last_faded l None s.sequencers)) ∙ ap (λ qs. live_of (last_in l None qs)) a.sequencers))
