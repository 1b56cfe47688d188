-- Whether a message is one that a frame can carry is a matter of its payloads' lengths, not of their bytes.
use Rattle.std.proofs.Common.{◌≡◌, ◌≤◌, ◌+◌, ℕ, List, [], ◌∷◌, map, Option, Some, None, option_map, refl, sym, subst}
use Rattle.ld_lsn.specs.Number.{esn_of}
use Rattle.ld_msg.specs.declared.msg.Who.{Who}
use Rattle.ld_msg.specs.declared.msg.Who.TheVariants as whos
use Rattle.ld_msg.specs.declared.msg.What.{What}
use Rattle.ld_msg.specs.declared.msg.What.TheVariants.{Rec, Hole, Bridge, Plug, Withheld}
use Rattle.ld_msg.specs.declared.msg.Entry.{Entry}
use Rattle.ld_msg.specs.declared.msg.Msg.{Msg}
use Rattle.ld_msg.specs.declared.msg.Body.{Body}
use Rattle.ld_msg.specs.declared.msg.Body.TheVariants as bodies
use Rattle.ld_msg.specs.Bounds.{last_place, IsShort, IsEntry, AreEntries, IsReadable, AreReadable, IsKept, AreKept, RiseWithin, IsPage, Fits}
use Rattle.ld_op.specs.Cells.{each_what, each_entry, each_body}
use Rattle.ld_op.specs.Handles.{answer_message}
use Rattle.ld_op.proofs.Same.{length-map}
use Rattle.ld_node_bounds.specs.Messages.{AreMessages}

module _ (f : ℕ → ℕ) where
  place_same : (w : What) → last_place (each_what f w) ≡ last_place w
  place_same (Rec p) = refl
  place_same Hole = refl
  place_same Bridge = refl
  place_same Plug = refl
  place_same Withheld = refl

  short_each : (w : What) → IsShort w → IsShort (each_what f w)
  short_each (Rec p) is = subst (λ n. n ≤ 65535) (sym (length-map f p)) is
  short_each Hole is = tt
  short_each Bridge is = tt
  short_each Plug is = tt
  short_each Withheld is = tt

  short_back : (w : What) → IsShort (each_what f w) → IsShort w
  short_back (Rec p) is = subst (λ n. n ≤ 65535) (length-map f p) is
  short_back Hole is = tt
  short_back Bridge is = tt
  short_back Plug is = tt
  short_back Withheld is = tt

  entry_each : (e : Entry) → IsEntry e → IsEntry (each_entry f e)
  entry_each e is = record { epoch = is.epoch; from_one = is.from_one; place = subst (λ n. esn_of e.number ≤ n) (sym (place_same e.what)) is.place; ballot = is.ballot; ballot_most = is.ballot_most; short = short_each e.what is.short }

  entry_back : (e : Entry) → IsEntry (each_entry f e) → IsEntry e
  entry_back e is = record { epoch = is.epoch; from_one = is.from_one; place = subst (λ n. esn_of e.number ≤ n) (place_same e.what) is.place; ballot = is.ballot; ballot_most = is.ballot_most; short = short_back e.what is.short }

  entries_each : (es : List Entry) → AreEntries es → AreEntries (map (each_entry f) es)
  entries_each [] are = tt
  entries_each (e ∷ es) are = (entry_each e are.0, entries_each es are.1)

  entries_back : (es : List Entry) → AreEntries (map (each_entry f) es) → AreEntries es
  entries_back [] are = tt
  entries_back (e ∷ es) are = (entry_back e are.0, entries_back es are.1)

  readable_same : (to : Who) (w : What) → IsReadable to (each_what f w) ≡ IsReadable to w
  readable_same to (Rec p) = refl
  readable_same to Hole = refl
  readable_same to Bridge = refl
  readable_same to Plug = refl
  readable_same to Withheld = refl

  are_readable_same : (to : Who) (es : List Entry) → AreReadable to (map (each_entry f) es) ≡ AreReadable to es
  are_readable_same to [] = refl
  are_readable_same to (e ∷ es) = (λ i. readable_same to e.what i × are_readable_same to es i)

  kept_same : (w : What) → IsKept (each_what f w) ≡ IsKept w
  kept_same (Rec p) = refl
  kept_same Hole = refl
  kept_same Bridge = refl
  kept_same Plug = refl
  kept_same Withheld = refl

  are_kept_same : (es : List Entry) → AreKept (map (each_entry f) es) ≡ AreKept es
  are_kept_same [] = refl
  are_kept_same (e ∷ es) = (λ i. kept_same e.what i × are_kept_same es i)

  rise_same : (from upto : ℕ) (es : List Entry) → RiseWithin from upto (map (each_entry f) es) ≡ RiseWithin from upto es
  rise_same from upto [] = refl
  rise_same from upto (e ∷ es) = (λ i. (from ≤ e.number) × (e.number ≤ upto) × rise_same (e.number + 1) upto es i)

  page_each : (from upto : ℕ) (es : List Entry) → IsPage from upto es → IsPage from upto (map (each_entry f) es)
  page_each from upto es is = record {
    range = is.range;
    bound = is.bound;
    home = is.home;
    few = subst (λ n. n ≤ 64) (sym (length-map (each_entry f) es)) is.few;
    entries = entries_each es is.entries;
    rise = subst (λ t. t) (sym (rise_same from upto es)) is.rise;
  }

  page_back : (from upto : ℕ) (es : List Entry) → IsPage from upto (map (each_entry f) es) → IsPage from upto es
  page_back from upto es is = record {
    range = is.range;
    bound = is.bound;
    home = is.home;
    few = subst (λ n. n ≤ 64) (length-map (each_entry f) es) is.few;
    entries = entries_back es is.entries;
    rise = subst (λ t. t) (rise_same from upto es) is.rise;
  }

  fits_each : (from to : Who) (b : Body) → Fits from to b → Fits from to (each_body f b)
  fits_each from to (bodies.DigestPage n upto t lng es) fits = (fits.0, page_each n upto es fits.1, subst (λ x. x) (sym (are_kept_same es)) fits.2, fits.3, fits.4)
  fits_each from to (bodies.ReadPage round n upto c es) fits = (fits.0, page_each n upto es fits.1, subst (λ x. x) (sym (are_readable_same to es)) fits.2)
  fits_each from to _ fits = fits

  fits_back : (from to : Who) (b : Body) → Fits from to (each_body f b) → Fits from to b
  fits_back from to (bodies.DigestPage n upto t lng es) fits = (fits.0, page_back n upto es fits.1, subst (λ x. x) (are_kept_same es) fits.2, fits.3, fits.4)
  fits_back from to (bodies.ReadPage round n upto c es) fits = (fits.0, page_back n upto es fits.1, subst (λ x. x) (are_readable_same to es) fits.2)
  fits_back from to _ fits = fits

  -- an answer with payloads of the same lengths
  pub answer_too : (id : ℕ) (m : Msg) (a b : Option Body) → option_map (each_body f) a ≡ option_map (each_body f) b → AreMessages (answer_message id m b) → AreMessages (answer_message id m a)
  answer_too id m None b is are = tt
  answer_too id m (Some x) None is are = absurd (cc is)
  answer_too id m (Some x) (Some y) is are =
      let same : each_body f x ≡ each_body f y = cc is in
      let fits = fits_back (whos.Node id) m.from x (subst (λ z. Fits (whos.Node id) m.from z) (sym same) (fits_each (whos.Node id) m.from y are.0.fits)) in
      (record { log = are.0.log; fits = fits }, tt)
