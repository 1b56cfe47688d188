-- What a node has of an epoch, of lesser ballots than that to which it gave a page, is in the page, unless it was refilled: op by op.
use Rattle.std.proofs.Common.{◌≡◌, ◌∙◌, ◌≤◌, ◌<◌, ℕ, max, inl, inr, ap, sym, subst, List, [], ◌∷◌, Option, Some, Bool, true, false, cond, nat_lt, arith}
use Rattle.ld_table.specs.Table.{find}
use Rattle.ld_table.proofs.Laws.{put_cases}
use Rattle.std.specs.Option.{unwrap_or}
use Rattle.std.specs.Ordering.{nat_cmp}
use Rattle.std.specs.BTreeMap.{is_at}
use Rattle.ld_lsn.specs.Number.{epoch_of}
use Rattle.ld_msg.specs.declared.msg.Entry.{Entry}
use Rattle.ld_msg.specs.declared.msg.Summary.{Summary}
use Rattle.ld_op.specs.declared.op.Op.{Op}
use Rattle.ld_op.specs.declared.op.Op.TheVariants as ops
use Rattle.ld_op.specs.Plain.{Plain, Log, log_of, empty_log, with_log, unformatted, lost_logs, lost_log, accepted, trimmed_to, cleaned, survives_clean, refilled_with, apply}
use Rattle.ld_op.proofs.Moves.{taken_from}
use Rattle.ld_machine.specs.World.{In}
use Rattle.ld_safety.proofs.Lists.{not_none}
use Rattle.ld_safety.proofs.NodeSteps.{Served}
use Rattle.ld_safety.proofs.LostFull.{keep_was, keys_was, refill_found}

-- a page to the ballot has what the log has of it, but what was refilled
abbrev pub ShownBy : Log → ℕ → ℕ → ℕ → List Entry → Type 0
ShownBy g b from upto es = (k : ℕ) (f : Entry) → find k g.entries ≡ Some f → epoch_of k ≡ epoch_of from → from ≤ k → k ≤ upto → f.ballot < b → g.lost_to < epoch_of from → In f es

accept_shown : (g : Log) (lng : ℕ) (e : Entry) (b from upto : ℕ) (es : List Entry) → Served g (epoch_of e.number) → g.sealed ≤ e.ballot → (Served g (epoch_of from) → b ≤ g.sealed) → ShownBy g b from upto es → ShownBy (accepted g lng e) b from upto es
accept_shown g lng e b from upto es v s z h k f i q lo hi lt un = elim (taken_from g lng e k f i) [
  | inl a ↦ absurd (let y = z (subst (Served g) (ap epoch_of (sym a.0) ∙ q) v) in let x : f.ballot ≡ e.ballot = ap (λ (o : Entry). o.ballot) a.1 in omega arith)
  | inr a ↦ h k f a q lo hi lt un
]

trim_shown : (g : Log) (t b from upto : ℕ) (es : List Entry) → ShownBy g b from upto es → ShownBy (trimmed_to g t) b from upto es
trim_shown g t b from upto es h k f i = h k f (keys_was (λ s. nat_lt (max g.trim t) s) k g.entries f i)

clean_shown : (g : Log) (c : ℕ) (y : Summary) (b from upto : ℕ) (es : List Entry) → ShownBy g b from upto es → ShownBy (cleaned g c y) b from upto es
clean_shown g c y b from upto es h k f i = h k f (keep_was (λ s e. survives_clean (max g.trim y.trim) c y e) k g.entries f i)

refill_shown : (g : Log) (xs : List Entry) (b from upto : ℕ) (es : List Entry) → ((e : Entry) → In e xs → epoch_of e.number ≤ g.lost_to) → ShownBy g b from upto es → ShownBy (refilled_with g xs) b from upto es
refill_shown g xs b from upto es r h k f i q lo hi lt un = elim (refill_found xs g.entries k f i) [
  | inl a ↦ h k f a q lo hi lt un
  | inr a ↦ absurd (let y = r f a.0 in let z = ap epoch_of a.1 in omega arith)
]

-- what an op needs
abbrev pub OpShows : Plain → ℕ → ℕ → ℕ → Op → Type 0
OpShows p l b from (ops.Accept k lng e) = Served (log_of p k) (epoch_of e.number) × ((log_of p k).sealed ≤ e.ballot) × (Served (log_of p l) (epoch_of from) → b ≤ (log_of p l).sealed)
OpShows p l b from (ops.Refill k xs) = (e : Entry) → In e xs → epoch_of e.number ≤ (log_of p k).lost_to
OpShows p l b from _ = Unit {0}

with_log_shown : (p : Plain) (k : ℕ) (h : Log) (l b from upto : ℕ) (es : List Entry) → (k ≡ l → ShownBy (log_of p k) b from upto es → ShownBy h b from upto es) → ShownBy (log_of p l) b from upto es → ShownBy (log_of (with_log p k h) l) b from upto es
with_log_shown p k h l b from upto es f u = elim (put_cases l k h p.logs) [
  | inl a ↦ subst (λ (o : Option Log). ShownBy (unwrap_or o empty_log) b from upto es) (sym a.1) (f (sym a.0) (subst (λ j. ShownBy (log_of p j) b from upto es) a.0 u))
  | inr a ↦ subst (λ (o : Option Log). ShownBy (unwrap_or o empty_log) b from upto es) (sym a.1) u
]

nothing_shown : (ds : List (ℕ × ℕ)) (l b from upto : ℕ) (es : List Entry) → ShownBy (unwrap_or (find l (lost_logs ds)) empty_log) b from upto es
unfolding find
nothing_shown [] l b from upto es = λ k f i. absurd (not_none i)
nothing_shown (d ∷ ds) l b from upto es = shown_or (is_at (nat_cmp l) d.0) (find l (lost_logs ds)) (nothing_shown ds l b from upto es) where
  shown_or : (t : Bool) (o : Option Log) → ShownBy (unwrap_or o empty_log) b from upto es → ShownBy (unwrap_or (cond t (Some (lost_log d.1)) o) empty_log) b from upto es
  shown_or true o h = λ k f i. absurd (not_none i)
  shown_or false o h = h

pub blank_shown : (l b from upto : ℕ) (es : List Entry) → ShownBy (log_of unformatted l) b from upto es
unfolding find
blank_shown l b from upto es k f i = absurd (not_none i)

pub op_shown : (p : Plain) (o : Op) (l b from upto : ℕ) (es : List Entry) → OpShows p l b from o → ShownBy (log_of p l) b from upto es → ShownBy (log_of (apply p o) l) b from upto es
unfolding apply
op_shown p (ops.Format g ds) l b from upto es n h = nothing_shown ds l b from upto es
op_shown p (ops.Accept k lng e) l b from upto es n h = with_log_shown p k _ l b from upto es (λ q u. accept_shown (log_of p k) lng e b from upto es n.0 n.1 (subst (λ j. Served (log_of p j) (epoch_of from) → b ≤ (log_of p j).sealed) (sym q) n.2) u) h
op_shown p (ops.Seal k s) l b from upto es n h = with_log_shown p k _ l b from upto es (λ q u. u) h
op_shown p (ops.Clean k c y) l b from upto es n h = with_log_shown p k _ l b from upto es (λ q u. clean_shown (log_of p k) c y b from upto es u) h
op_shown p (ops.Trim k t) l b from upto es n h = with_log_shown p k _ l b from upto es (λ q u. trim_shown (log_of p k) t b from upto es u) h
op_shown p (ops.Refill k xs) l b from upto es n h = with_log_shown p k _ l b from upto es (λ q u. refill_shown (log_of p k) xs b from upto es n u) h
op_shown p (ops.Refilled k) l b from upto es n h = with_log_shown p k _ l b from upto es (λ q u. u) h
