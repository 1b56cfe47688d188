-- What a message makes a node keep is an op.
use Rattle.std.proofs.Common.{◌≡◌, ◌≤◌, ◌+◌, ℕ, Bool, true, false, List, [], ◌∷◌, length, map, filter, Option, Some, None, refl, subst, if◌then◌else◌, nat_lt, arith}
use Rattle.ld_table.specs.Table.{find}
use Rattle.ld_lsn.specs.Number.{epoch_of}
use Rattle.ld_msg.specs.declared.msg.Who.{Who}
use Rattle.ld_msg.specs.declared.msg.Who.TheVariants as whos
use Rattle.ld_msg.specs.declared.msg.What.{What}
use Rattle.ld_msg.specs.declared.msg.What.TheVariants.{Rec, Hole, Bridge, Plug, Withheld}
use Rattle.ld_msg.specs.declared.msg.Summary.{Summary}
use Rattle.ld_msg.specs.declared.msg.Entry.{Entry}
use Rattle.ld_msg.specs.declared.msg.Body.{Body}
use Rattle.ld_msg.specs.declared.msg.Body.TheVariants as bodies
use Rattle.ld_msg.specs.Bounds.{IsEpoch, IsEntry, IsSummary, AreEntries, IsReadable, AreReadable, IsKept, AreKept, RiseWithin, IsSequencerHere, Fits, ballot_of}
use Rattle.ld_ids.specs.Id.{IsLog}
use Rattle.ld_op.specs.declared.op.Op.{Op}
use Rattle.ld_op.specs.declared.op.Op.TheVariants as ops
use Rattle.ld_op.specs.Plain.{Log}
use Rattle.ld_op.specs.Bounds.{RiseFrom}
use Rattle.ld_op.specs.Answers as answers
use Rattle.ld_op.specs.Answers.{on_store, on_digest_ask, on_clean, on_trim, store_decision, digest_decision, taken, clean_op}
use Rattle.ld_op.specs.Ticks as ticks
use Rattle.ld_op.specs.Ticks.{on_page, page_op, refill_op, lacking, as_closed, is_missing}
use Rattle.ld_op.specs.Handles.{handled_by}
use Rattle.ld_node.specs.Changes.{IsChange}

pub some_change : (o p : Op) → IsChange o → Some o ≡ Some p → IsChange p
some_change o p is same = let e : o ≡ p = cc in subst (λ x. IsChange x) e is

taken_change : (o p : Op) (d : answers.Decision) → IsChange o → taken o d ≡ Some p → IsChange p
taken_change o p (answers.Lost end) is same = absurd cc
taken_change o p (answers.CleanAlready y) is same = absurd cc
taken_change o p (answers.Trimmed t) is same = absurd cc
taken_change o p (answers.Sealed by) is same = absurd cc
taken_change o p answers.Same is same = absurd cc
taken_change o p answers.Take is same = some_change o p is same

if_change : (b : Bool) (o : Option Op) (p : Op) → (o ≡ Some p → IsChange p) → (if b then o else None) ≡ Some p → IsChange p
if_change true o p is same = is same
if_change false o p is same = absurd cc

clean_change : (l e : ℕ) (y : Summary) (o : Option Summary) (p : Op) → IsChange (ops.Clean l e y) → clean_op l e y o ≡ Some p → IsChange p
clean_change l e y None p is same = some_change (ops.Clean l e y) p is same
clean_change l e y (Some z) p is same = absurd cc

sequencer_ballot : (w : Who) → IsSequencerHere w → IsEpoch (ballot_of w)
sequencer_ballot (whos.Node n) is = absurd is
sequencer_ballot (whos.Sequencer e) is = is
sequencer_ballot (whos.Reader r) is = absurd is

-- ---- the entries of a page that are missing ----

rise_down : (m n : ℕ) (es : List Entry) → n ≤ m → RiseFrom m es → RiseFrom n es
rise_down m n [] less rise = tt
rise_down m n (e ∷ es) less rise = (omega (arith, less, rise.0), rise.1)

-- what a node is told stands somewhere is not withheld
told_kept : (n : ℕ) (w : What) → IsReadable (whos.Node n) w → IsKept w
told_kept n (Rec p) is = tt
told_kept n Hole is = tt
told_kept n Bridge is = absurd is
told_kept n Plug is = tt
told_kept n Withheld is = absurd is

-- with the ballot of a summary of its epoch
ballot_entry : (e : Entry) (o : Option Summary) → IsEntry e → ((y : Summary) → o ≡ Some y → IsSummary (epoch_of e.number) y) → IsEntry (record { number = e.number; ballot = ticks.ballot_of e.ballot o; what = e.what })
ballot_entry e None is well = is
ballot_entry e (Some y) is well =
    let of = well y refl in
    record { epoch = is.epoch; from_one = is.from_one; place = is.place; ballot = omega (arith, of.ballot); ballot_most = of.ballot_most; short = is.short }

module _ (g : Log) (well : (e : ℕ) (y : Summary) → find e g.summaries ≡ Some y → IsSummary e y) where
  record Fine (from : ℕ) (es : List Entry) (most : ℕ) : Type 0 where
    entries : AreEntries es
    rise : RiseFrom from es
    few : length es ≤ most
    kept : AreKept es

  one_fine : (b : Bool) (from most : ℕ) (e : Entry) (es : List Entry) → IsEntry (as_closed g e) → IsKept e.what → from ≤ e.number → Fine (e.number + 1) (map (as_closed g) es) most → Fine from (map (as_closed g) (if b then e ∷ es else es)) (most + 1)
  one_fine true from most e es is kept less rest = record { entries = (is, rest.entries); rise = (less, rest.rise); few = omega (arith, rest.few); kept = (kept, rest.kept) }
  one_fine false from most e es is kept less rest = record { entries = rest.entries; rise = rise_down (e.number + 1) from (map (as_closed g) es) (omega (arith, less)) rest.rise; few = omega (arith, rest.few); kept = rest.kept }

  lacking_fine : (n from upto : ℕ) (es : List Entry) → AreEntries es → AreReadable (whos.Node n) es → RiseWithin from upto es → Fine from (lacking g es) (length es)
  lacking_fine n from upto [] are told rise = record { entries = tt; rise = tt; few = omega arith; kept = tt }
  lacking_fine n from upto (e ∷ es) are told rise =
      let rest = lacking_fine n (e.number + 1) upto es are.1 told.1 rise.2 in
      let one = one_fine (is_missing g e.number) from (length es) e (filter (λ f. is_missing g f.number) es) (ballot_entry e (find (epoch_of e.number) g.summaries) are.0 (well (epoch_of e.number))) (told_kept n e.what told.0) rise.0 rest in
      record { entries = one.entries; rise = one.rise; few = omega (arith, one.few); kept = one.kept }

  refill_change : (l from most : ℕ) (es : List Entry) (p : Op) → IsLog l → most ≤ 64 → Fine from es most → refill_op l es ≡ Some p → IsChange p
  refill_change l from most [] p log less fine same = absurd cc
  refill_change l from most (e ∷ es) p log less fine same =
      some_change (ops.Refill l (e ∷ es)) p (record { op = (log, omega arith, omega (arith, fine.few, less), fine.entries, rise_down from 0 (e ∷ es) (omega arith) fine.rise, fine.kept); kind = refl }) same

  page_change : (n l : ℕ) (from : Who) (b : Body) (p : Op) → IsLog l → Fits from (whos.Node n) b → page_op g l b ≡ Some p → IsChange p
  page_change id l from (bodies.ReadPage r n u c es) p log fits same =
      if_change c (refill_op l (lacking g es)) p (refill_change l n (length es) (lacking g es) p log fits.1.few (lacking_fine id n u es fits.1.entries fits.2 fits.1.rise)) same
  page_change id l from (bodies.ReadTrim r n t) p log fits same = if_change (nat_lt g.trim t) (Some (ops.Trim l t)) p (some_change (ops.Trim l t) p (record { op = (log, fits.1); kind = refl })) same
  page_change id l from (bodies.Store n lng w) p log fits same = absurd cc
  page_change id l from (bodies.Stored n) p log fits same = absurd cc
  page_change id l from (bodies.SealedHere n k) p log fits same = absurd cc
  page_change id l from (bodies.LostHere n r x e) p log fits same = absurd cc
  page_change id l from (bodies.CleanHere n s) p log fits same = absurd cc
  page_change id l from (bodies.TrimmedHere n t) p log fits same = absurd cc
  page_change id l from (bodies.DigestAsk n) p log fits same = absurd cc
  page_change id l from (bodies.DigestPage from_n upto trim lng es) p log fits same = absurd cc
  page_change id l from (bodies.Clean e s) p log fits same = absurd cc
  page_change id l from (bodies.Release n) p log fits same = absurd cc
  page_change id l from (bodies.Trim t) p log fits same = absurd cc
  page_change id l from (bodies.ReadAsk r n) p log fits same = absurd cc
  page_change id l from (bodies.ReadEnded r n e lossy) p log fits same = absurd cc
  page_change id l from (bodies.ReadWait r n e) p log fits same = absurd cc
  page_change id l from (bodies.ReadOne r n set excluded) p log fits same = absurd cc

  on_page_change : (n l : ℕ) (from : Who) (b : Body) (p : Op) → IsLog l → Fits from (whos.Node n) b → (on_page g l b).op ≡ Some p → IsChange p
  unfolding on_page
  on_page_change n l from b p log fits same = if_change g.lost (page_op g l b) p (page_change n l from b p log fits) same

  pub handled_change : (id n l r : ℕ) (from : Who) (b : Body) (p : Op) → IsLog l → Fits from (whos.Node id) b → (handled_by id n g l (ballot_of from) r b).op ≡ Some p → IsChange p
  unfolding on_store on_digest_ask on_clean on_trim
  handled_change id n l r from (bodies.Store s lng w) p log fits same =
      taken_change _ p (store_decision g (record { number = s; ballot = ballot_of from; what = w })) (record { op = (log, fits.1, fits.2, fits.3); kind = refl }) same
  handled_change id n l r from (bodies.DigestAsk s) p log fits same =
      taken_change _ p (digest_decision g (ballot_of from) s) (record { op = (log, sequencer_ballot from fits.0.0); kind = refl }) same
  handled_change id n l r from (bodies.Clean e y) p log fits same = clean_change l e y _ p (record { op = (log, fits.1, fits.2); kind = refl }) same
  handled_change id n l r from (bodies.Trim t) p log fits same = if_change (nat_lt g.trim t) (Some (ops.Trim l t)) p (some_change (ops.Trim l t) p (record { op = (log, fits.1); kind = refl })) same
  handled_change id n l r from (bodies.ReadAsk ro s) p log fits same = absurd cc
  handled_change id n l r from (bodies.ReadOne ro s set excluded) p log fits same = absurd cc
  handled_change id n l r from (bodies.Stored s) p log fits same = on_page_change id l from (bodies.Stored s) p log fits same
  handled_change id n l r from (bodies.SealedHere s k) p log fits same = on_page_change id l from (bodies.SealedHere s k) p log fits same
  handled_change id n l r from (bodies.LostHere s ro x e) p log fits same = on_page_change id l from (bodies.LostHere s ro x e) p log fits same
  handled_change id n l r from (bodies.CleanHere s y) p log fits same = on_page_change id l from (bodies.CleanHere s y) p log fits same
  handled_change id n l r from (bodies.TrimmedHere s t) p log fits same = on_page_change id l from (bodies.TrimmedHere s t) p log fits same
  handled_change id n l r from (bodies.DigestPage first upto trim lng es) p log fits same = on_page_change id l from (bodies.DigestPage first upto trim lng es) p log fits same
  handled_change id n l r from (bodies.Release s) p log fits same = on_page_change id l from (bodies.Release s) p log fits same
  handled_change id n l r from (bodies.ReadPage ro s u c es) p log fits same = on_page_change id l from (bodies.ReadPage ro s u c es) p log fits same
  handled_change id n l r from (bodies.ReadEnded ro s e lossy) p log fits same = on_page_change id l from (bodies.ReadEnded ro s e lossy) p log fits same
  handled_change id n l r from (bodies.ReadTrim ro s t) p log fits same = on_page_change id l from (bodies.ReadTrim ro s t) p log fits same
  handled_change id n l r from (bodies.ReadWait ro s e) p log fits same = on_page_change id l from (bodies.ReadWait ro s e) p log fits same
