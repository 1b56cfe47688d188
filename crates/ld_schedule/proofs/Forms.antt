-- Each form of a line is a word and its parts.
use Rattle.std.specs.Prelude.{codes, Bool}
use Rattle.std.proofs.Common.{◌≡◌, ℕ, List, refl, sym, subst, ◌∙◌, decimal, Err}
use Rattle.ld_lsn.specs.Number.{lsn_text}
use Rattle.ld_ids.specs.Bytes.{AreBytes, hex_text}
use Rattle.ld_ids.specs.Id.{IsNode, IsLog}
use Rattle.ld_schedule.specs.declared.event.Picture.{Picture}
use Rattle.ld_schedule.specs.declared.event.Event.{Event}
use Rattle.ld_schedule.specs.declared.event.Event.TheVariants.{Format, Activate, Append, Batch, Trim, Retry, Drop, Deliver, Lose, Flow, Open, OpenOne, OpenMessages, Poll, Tick, Down, Up, Wipe, Fail, Tear, Set, Replace, Calm, RegFail}
use Rattle.ld_schedule.specs.declared.form.Form.{Form}
use Rattle.ld_schedule.specs.declared.form.Form.TheVariants as forms
use Rattle.ld_schedule.specs.declared.form.NodeForm.TheVariants as node_forms
use Rattle.ld_schedule.specs.declared.form.NameForm.TheVariants as name_forms
use Rattle.ld_schedule.specs.declared.form.CountForm.TheVariants as count_forms
use Rattle.ld_schedule.specs.declared.words.Count.{Count}
use Rattle.ld_schedule.specs.declared.words.Place.{Place}
use Rattle.ld_schedule.specs.declared.digits.Done.{Done}
use Rattle.ld_schedule.specs.declared.nodes.Factor.{Factor}
use Rattle.ld_schedule.specs.declared.nodes.Extras.{Extras}
use Rattle.ld_schedule.specs.Reading.{behind, both, joined, Always}
use Rattle.ld_schedule.specs.Grammar.{IsName, IsCount, IsMessage, IsLsn, IsPicture, IsFactor, AreExtras, IsNodes, IsBatch, picture_text, done_text, nodes_text, messages_text, event_text}
use Rattle.ld_schedule.specs.Form.{IsOfForm}
use Rattle.ld_schedule.specs.declared.fault.LineFault.{LineFault}
use Rattle.ld_schedule.specs.Reading.{IsText, IsRead}
use Rattle.ld_schedule.proofs.Faults.{fault_along}
use Rattle.ld_schedule.proofs.OneOf.{only}

abbrev pub itself : List ℕ → List ℕ
itself name = name

abbrev pub is_count : Count → Type 0
is_count c = IsCount c.count

abbrev pub count_text : Count → List ℕ
count_text c = decimal c.count

abbrev pub is_place : Place → Type 0
is_place p = IsMessage p.message

abbrev pub place_text : Place → List ℕ
place_text p = decimal p.message

abbrev pub done_word : Done → List ℕ
done_word d = done_text d.done

abbrev pub is_factor : Factor → Type 0
is_factor f = IsFactor f.r

abbrev pub factor_text : Factor → List ℕ
factor_text f = decimal f.r

abbrev pub are_extras : Extras → Type 0
are_extras e = AreExtras e.extras

abbrev pub extras_text : Extras → List ℕ
extras_text e = decimal e.extras

-- a form's events are those of its parts
pub record IsFormOf {V : Type 0} (named : V → Type 0) (text : V → List ℕ) (make : V → Event) (form : Form) : Type 0 where
  pub into : (v : V) → named v → IsOfForm form (make v) × (event_text (make v) ≡ text v)
  pub back : (w : Event) → IsOfForm form w → (v : V) × named v × (text v ≡ event_text w)

-- what is read of the parts is read of the form
pub text_form : {V : Type 0} {named : V → Type 0} {text : V → List ℕ} {make : V → Event} {form : Form} → IsFormOf named text make form
    → (chosen : Form) → chosen ≡ form → (line : List ℕ) (v : V) → IsText named text line v → IsText (IsOfForm chosen) event_text line (make v)
text_form {make = make} of chosen is line v read =
    let found = of.into v read.can in
    subst (λ f. IsText (IsOfForm f) event_text line (make v)) (sym is) (record { can = found.0; is = read.is ∙ sym found.1 })

pub fault_form : {V : Type 0} {named : V → Type 0} {text : V → List ℕ} {make : V → Event} {form : Form} → IsFormOf named text make form
    → (chosen : Form) → chosen ≡ form → (line : List ℕ) (fault : LineFault) → IsRead named text line (Err fault) → IsRead (IsOfForm chosen) event_text line (Err fault)
fault_form {named = named} {text = text} {make = make} {form = form} of chosen is line fault read =
    subst (λ f. IsRead (IsOfForm f) event_text line (Err fault)) (sym is) (fault_along named text (IsOfForm form) event_text line fault make of.into of.back read)

abbrev pub make_format : ℕ → Event
make_format v = Format v

back_format : (w : Event) → IsOfForm (forms.Node node_forms.Format) w → (v : ℕ) × IsNode v × (behind (codes "format ") decimal v ≡ event_text w)
unfolding event_text
back_format (Format n) is = (n, is.can, refl)
back_format _ is = let other = is.form_is in cc

pub form_format : IsFormOf IsNode (behind (codes "format ") decimal) make_format (forms.Node node_forms.Format)
unfolding event_text
form_format = record { into = λ v can. (record { form_is = refl; can = can }, refl); back = back_format }

abbrev pub make_activate : List ℕ × ℕ → Event
make_activate v = Activate v.0 v.1

back_activate : (w : Event) → IsOfForm (forms.Name name_forms.Activate) w → (v : List ℕ × ℕ) × (both IsName IsLog) v × (behind (codes "activate ") (joined itself 32 decimal) v ≡ event_text w)
unfolding event_text
back_activate (Activate s l) is = ((s, l), is.can, refl)
back_activate _ is = let other = is.form_is in cc

pub form_activate : IsFormOf (both IsName IsLog) (behind (codes "activate ") (joined itself 32 decimal)) make_activate (forms.Name name_forms.Activate)
unfolding event_text
form_activate = record { into = λ v can. (record { form_is = refl; can = can }, refl); back = back_activate }

abbrev pub make_append : List ℕ × List ℕ → Event
make_append v = Append v.0 v.1

back_append : (w : Event) → IsOfForm (forms.Name name_forms.Append) w → (v : List ℕ × List ℕ) × (both IsName AreBytes) v × (behind (codes "append ") (joined itself 32 hex_text) v ≡ event_text w)
unfolding event_text
back_append (Append s p) is = ((s, p), is.can, refl)
back_append _ is = let other = is.form_is in cc

pub form_append : IsFormOf (both IsName AreBytes) (behind (codes "append ") (joined itself 32 hex_text)) make_append (forms.Name name_forms.Append)
unfolding event_text
form_append = record { into = λ v can. (record { form_is = refl; can = can }, refl); back = back_append }

abbrev pub make_batch : List ℕ × List (List ℕ) → Event
make_batch v = Batch v.0 v.1

back_batch : (w : Event) → IsOfForm (forms.Name name_forms.Batch) w → (v : List ℕ × List (List ℕ)) × (both IsName IsBatch) v × (behind (codes "batch ") (joined itself 32 messages_text) v ≡ event_text w)
unfolding event_text
back_batch (Batch s ms) is = ((s, ms), is.can, refl)
back_batch _ is = let other = is.form_is in cc

pub form_batch : IsFormOf (both IsName IsBatch) (behind (codes "batch ") (joined itself 32 messages_text)) make_batch (forms.Name name_forms.Batch)
unfolding event_text
form_batch = record { into = λ v can. (record { form_is = refl; can = can }, refl); back = back_batch }

abbrev pub make_trim : List ℕ × ℕ → Event
make_trim v = Trim v.0 v.1

back_trim : (w : Event) → IsOfForm (forms.Name name_forms.Trim) w → (v : List ℕ × ℕ) × (both IsName IsLsn) v × (behind (codes "trim ") (joined itself 32 lsn_text) v ≡ event_text w)
unfolding event_text
back_trim (Trim s p) is = ((s, p), is.can, refl)
back_trim _ is = let other = is.form_is in cc

pub form_trim : IsFormOf (both IsName IsLsn) (behind (codes "trim ") (joined itself 32 lsn_text)) make_trim (forms.Name name_forms.Trim)
unfolding event_text
form_trim = record { into = λ v can. (record { form_is = refl; can = can }, refl); back = back_trim }

abbrev pub make_retry : List ℕ → Event
make_retry v = Retry v

back_retry : (w : Event) → IsOfForm (forms.Name name_forms.Retry) w → (v : List ℕ) × IsName v × (behind (codes "retry ") itself v ≡ event_text w)
unfolding event_text
back_retry (Retry s) is = (s, is.can, refl)
back_retry _ is = let other = is.form_is in cc

pub form_retry : IsFormOf IsName (behind (codes "retry ") itself) make_retry (forms.Name name_forms.Retry)
unfolding event_text
form_retry = record { into = λ v can. (record { form_is = refl; can = can }, refl); back = back_retry }

abbrev pub make_drop : List ℕ → Event
make_drop v = Drop v

back_drop : (w : Event) → IsOfForm (forms.Name name_forms.Drop) w → (v : List ℕ) × IsName v × (behind (codes "drop ") itself v ≡ event_text w)
unfolding event_text
back_drop (Drop s) is = (s, is.can, refl)
back_drop _ is = let other = is.form_is in cc

pub form_drop : IsFormOf IsName (behind (codes "drop ") itself) make_drop (forms.Name name_forms.Drop)
unfolding event_text
form_drop = record { into = λ v can. (record { form_is = refl; can = can }, refl); back = back_drop }

abbrev pub make_deliver : Place → Event
make_deliver v = Deliver v.message

back_deliver : (w : Event) → IsOfForm (forms.Count count_forms.Deliver) w → (v : Place) × is_place v × (behind (codes "deliver ") place_text v ≡ event_text w)
unfolding event_text
back_deliver (Deliver i) is = (record { message = i }, is.can, refl)
back_deliver _ is = let other = is.form_is in cc

pub form_deliver : IsFormOf is_place (behind (codes "deliver ") place_text) make_deliver (forms.Count count_forms.Deliver)
unfolding event_text
form_deliver = record { into = λ v can. (record { form_is = refl; can = can }, refl); back = back_deliver }

abbrev pub make_lose : Place → Event
make_lose v = Lose v.message

back_lose : (w : Event) → IsOfForm (forms.Count count_forms.Lose) w → (v : Place) × is_place v × (behind (codes "lose ") place_text v ≡ event_text w)
unfolding event_text
back_lose (Lose i) is = (record { message = i }, is.can, refl)
back_lose _ is = let other = is.form_is in cc

pub form_lose : IsFormOf is_place (behind (codes "lose ") place_text) make_lose (forms.Count count_forms.Lose)
unfolding event_text
form_lose = record { into = λ v can. (record { form_is = refl; can = can }, refl); back = back_lose }

abbrev pub make_flow : Count → Event
make_flow v = Flow v.count

back_flow : (w : Event) → IsOfForm (forms.Count count_forms.Flow) w → (v : Count) × is_count v × (behind (codes "flow ") count_text v ≡ event_text w)
unfolding event_text
back_flow (Flow k) is = (record { count = k }, is.can, refl)
back_flow _ is = let other = is.form_is in cc

pub form_flow : IsFormOf is_count (behind (codes "flow ") count_text) make_flow (forms.Count count_forms.Flow)
unfolding event_text
form_flow = record { into = λ v can. (record { form_is = refl; can = can }, refl); back = back_flow }

abbrev pub make_open : List ℕ × (ℕ × (ℕ × ℕ)) → Event
make_open v = Open v.0 v.1.0 v.1.1.0 v.1.1.1

back_open : (w : Event) → IsOfForm (forms.Name name_forms.Open) w → (v : List ℕ × (ℕ × (ℕ × ℕ))) × (both IsName (both IsLog (both IsLsn IsLsn))) v × (behind (codes "open ") (joined itself 32 (joined decimal 32 (joined lsn_text 32 lsn_text))) v ≡ event_text w)
unfolding event_text
back_open (Open s l f u) is = ((s, (l, (f, u))), (is.can.0, (is.can.1, (is.can.2, is.can.3))), refl)
back_open _ is = let other = is.form_is in cc

pub form_open : IsFormOf (both IsName (both IsLog (both IsLsn IsLsn))) (behind (codes "open ") (joined itself 32 (joined decimal 32 (joined lsn_text 32 lsn_text)))) make_open (forms.Name name_forms.Open)
unfolding event_text
form_open = record { into = λ v can. (record { form_is = refl; can = (can.0, can.1.0, can.1.1.0, can.1.1.1) }, refl); back = back_open }

abbrev pub make_openone : List ℕ × (ℕ × (ℕ × ℕ)) → Event
make_openone v = OpenOne v.0 v.1.0 v.1.1.0 v.1.1.1

back_openone : (w : Event) → IsOfForm (forms.Name name_forms.OpenOne) w → (v : List ℕ × (ℕ × (ℕ × ℕ))) × (both IsName (both IsLog (both IsLsn IsLsn))) v × (behind (codes "openone ") (joined itself 32 (joined decimal 32 (joined lsn_text 32 lsn_text))) v ≡ event_text w)
unfolding event_text
back_openone (OpenOne s l f u) is = ((s, (l, (f, u))), (is.can.0, (is.can.1, (is.can.2, is.can.3))), refl)
back_openone _ is = let other = is.form_is in cc

pub form_openone : IsFormOf (both IsName (both IsLog (both IsLsn IsLsn))) (behind (codes "openone ") (joined itself 32 (joined decimal 32 (joined lsn_text 32 lsn_text)))) make_openone (forms.Name name_forms.OpenOne)
unfolding event_text
form_openone = record { into = λ v can. (record { form_is = refl; can = (can.0, can.1.0, can.1.1.0, can.1.1.1) }, refl); back = back_openone }

abbrev pub make_openmsgs : List ℕ × (ℕ × (ℕ × ℕ)) → Event
make_openmsgs v = OpenMessages v.0 v.1.0 v.1.1.0 v.1.1.1

back_openmsgs : (w : Event) → IsOfForm (forms.Name name_forms.OpenMessages) w → (v : List ℕ × (ℕ × (ℕ × ℕ))) × (both IsName (both IsLog (both IsLsn IsLsn))) v × (behind (codes "openmsgs ") (joined itself 32 (joined decimal 32 (joined lsn_text 32 lsn_text))) v ≡ event_text w)
unfolding event_text
back_openmsgs (OpenMessages s l f u) is = ((s, (l, (f, u))), (is.can.0, (is.can.1, (is.can.2, is.can.3))), refl)
back_openmsgs _ is = let other = is.form_is in cc

pub form_openmsgs : IsFormOf (both IsName (both IsLog (both IsLsn IsLsn))) (behind (codes "openmsgs ") (joined itself 32 (joined decimal 32 (joined lsn_text 32 lsn_text)))) make_openmsgs (forms.Name name_forms.OpenMessages)
unfolding event_text
form_openmsgs = record { into = λ v can. (record { form_is = refl; can = (can.0, can.1.0, can.1.1.0, can.1.1.1) }, refl); back = back_openmsgs }

abbrev pub make_poll : List ℕ → Event
make_poll v = Poll v

back_poll : (w : Event) → IsOfForm (forms.Name name_forms.Poll) w → (v : List ℕ) × IsName v × (behind (codes "poll ") itself v ≡ event_text w)
unfolding event_text
back_poll (Poll s) is = (s, is.can, refl)
back_poll _ is = let other = is.form_is in cc

pub form_poll : IsFormOf IsName (behind (codes "poll ") itself) make_poll (forms.Name name_forms.Poll)
unfolding event_text
form_poll = record { into = λ v can. (record { form_is = refl; can = can }, refl); back = back_poll }

abbrev pub make_tick : ℕ × ℕ → Event
make_tick v = Tick v.0 v.1

back_tick : (w : Event) → IsOfForm (forms.Node node_forms.Tick) w → (v : ℕ × ℕ) × (both IsNode IsLog) v × (behind (codes "tick ") (joined decimal 32 decimal) v ≡ event_text w)
unfolding event_text
back_tick (Tick n l) is = ((n, l), is.can, refl)
back_tick _ is = let other = is.form_is in cc

pub form_tick : IsFormOf (both IsNode IsLog) (behind (codes "tick ") (joined decimal 32 decimal)) make_tick (forms.Node node_forms.Tick)
unfolding event_text
form_tick = record { into = λ v can. (record { form_is = refl; can = can }, refl); back = back_tick }

abbrev pub make_down : ℕ → Event
make_down v = Down v

back_down : (w : Event) → IsOfForm (forms.Node node_forms.Down) w → (v : ℕ) × IsNode v × (behind (codes "down ") decimal v ≡ event_text w)
unfolding event_text
back_down (Down n) is = (n, is.can, refl)
back_down _ is = let other = is.form_is in cc

pub form_down : IsFormOf IsNode (behind (codes "down ") decimal) make_down (forms.Node node_forms.Down)
unfolding event_text
form_down = record { into = λ v can. (record { form_is = refl; can = can }, refl); back = back_down }

abbrev pub make_up : ℕ → Event
make_up v = Up v

back_up : (w : Event) → IsOfForm (forms.Node node_forms.Up) w → (v : ℕ) × IsNode v × (behind (codes "up ") decimal v ≡ event_text w)
unfolding event_text
back_up (Up n) is = (n, is.can, refl)
back_up _ is = let other = is.form_is in cc

pub form_up : IsFormOf IsNode (behind (codes "up ") decimal) make_up (forms.Node node_forms.Up)
unfolding event_text
form_up = record { into = λ v can. (record { form_is = refl; can = can }, refl); back = back_up }

abbrev pub make_wipe : ℕ → Event
make_wipe v = Wipe v

back_wipe : (w : Event) → IsOfForm (forms.Node node_forms.Wipe) w → (v : ℕ) × IsNode v × (behind (codes "wipe ") decimal v ≡ event_text w)
unfolding event_text
back_wipe (Wipe n) is = (n, is.can, refl)
back_wipe _ is = let other = is.form_is in cc

pub form_wipe : IsFormOf IsNode (behind (codes "wipe ") decimal) make_wipe (forms.Node node_forms.Wipe)
unfolding event_text
form_wipe = record { into = λ v can. (record { form_is = refl; can = can }, refl); back = back_wipe }

abbrev pub make_fail : ℕ × Count → Event
make_fail v = Fail v.0 v.1.count

back_fail : (w : Event) → IsOfForm (forms.Node node_forms.Fail) w → (v : ℕ × Count) × (both IsNode is_count) v × (behind (codes "fail ") (joined decimal 32 count_text) v ≡ event_text w)
unfolding event_text
back_fail (Fail n k) is = ((n, record { count = k }), is.can, refl)
back_fail _ is = let other = is.form_is in cc

pub form_fail : IsFormOf (both IsNode is_count) (behind (codes "fail ") (joined decimal 32 count_text)) make_fail (forms.Node node_forms.Fail)
unfolding event_text
form_fail = record { into = λ v can. (record { form_is = refl; can = can }, refl); back = back_fail }

abbrev pub make_tear : ℕ × (Count × Picture) → Event
make_tear v = Tear v.0 v.1.0.count v.1.1

back_tear : (w : Event) → IsOfForm (forms.Node node_forms.Tear) w → (v : ℕ × (Count × Picture)) × (both IsNode (both is_count IsPicture)) v × (behind (codes "tear ") (joined decimal 32 (joined count_text 32 picture_text)) v ≡ event_text w)
unfolding event_text
back_tear (Tear n k p) is = ((n, (record { count = k }, p)), (is.can.0, (is.can.1, is.can.2)), refl)
back_tear _ is = let other = is.form_is in cc

pub form_tear : IsFormOf (both IsNode (both is_count IsPicture)) (behind (codes "tear ") (joined decimal 32 (joined count_text 32 picture_text))) make_tear (forms.Node node_forms.Tear)
unfolding event_text
form_tear = record { into = λ v can. (record { form_is = refl; can = (can.0, can.1.0, can.1.1) }, refl); back = back_tear }

abbrev pub make_set : ℕ × (Factor × (Extras × List Bool)) → Event
make_set v = Set v.0 v.1.0.r v.1.1.0.extras v.1.1.1

back_set : (w : Event) → IsOfForm (forms.Count count_forms.Set) w → (v : ℕ × (Factor × (Extras × List Bool))) × (both IsLog (both is_factor (both are_extras IsNodes))) v × (behind (codes "set ") (joined decimal 32 (joined factor_text 32 (joined extras_text 32 nodes_text))) v ≡ event_text w)
unfolding event_text
back_set (Set l r x s) is = ((l, (record { r = r }, (record { extras = x }, s))), (is.can.0, (is.can.1, (is.can.2, is.can.3))), refl)
back_set _ is = let other = is.form_is in cc

pub form_set : IsFormOf (both IsLog (both is_factor (both are_extras IsNodes))) (behind (codes "set ") (joined decimal 32 (joined factor_text 32 (joined extras_text 32 nodes_text)))) make_set (forms.Count count_forms.Set)
unfolding event_text
form_set = record { into = λ v can. (record { form_is = refl; can = (can.0, can.1.0, can.1.1.0, can.1.1.1) }, refl); back = back_set }

abbrev pub make_replace : ℕ × (ℕ × ℕ) → Event
make_replace v = Replace v.0 v.1.0 v.1.1

back_replace : (w : Event) → IsOfForm (forms.Node node_forms.Replace) w → (v : ℕ × (ℕ × ℕ)) × (both IsNode (both IsNode IsLog)) v × (behind (codes "replace ") (joined decimal 32 (joined decimal 32 decimal)) v ≡ event_text w)
unfolding event_text
back_replace (Replace n m l) is = ((n, (m, l)), (is.can.0, (is.can.1, is.can.2)), refl)
back_replace _ is = let other = is.form_is in cc

pub form_replace : IsFormOf (both IsNode (both IsNode IsLog)) (behind (codes "replace ") (joined decimal 32 (joined decimal 32 decimal))) make_replace (forms.Node node_forms.Replace)
unfolding event_text
form_replace = record { into = λ v can. (record { form_is = refl; can = (can.0, can.1.0, can.1.1) }, refl); back = back_replace }

abbrev pub make_regfail : Count × Done → Event
make_regfail v = RegFail v.0.count v.1.done

back_regfail : (w : Event) → IsOfForm (forms.Count count_forms.RegFail) w → (v : Count × Done) × (both is_count Always) v × (behind (codes "regfail ") (joined count_text 32 done_word) v ≡ event_text w)
unfolding event_text
back_regfail (RegFail k d) is = ((record { count = k }, record { done = d }), (is.can, tt), refl)
back_regfail _ is = let other = is.form_is in cc

pub form_regfail : IsFormOf (both is_count Always) (behind (codes "regfail ") (joined count_text 32 done_word)) make_regfail (forms.Count count_forms.RegFail)
unfolding event_text
form_regfail = record { into = λ v can. (record { form_is = refl; can = can.0 }, refl); back = back_regfail }

back_calm : (w : Event) → IsOfForm forms.Calm w → (v : Unit {0}) × Always v × (only (codes "calm") v ≡ event_text w)
unfolding event_text
back_calm Calm is = (tt, tt, refl)
back_calm _ is = let other = is.form_is in cc

-- the event whose line is its word alone
pub form_calm : IsFormOf Always (only (codes "calm")) (λ v. Calm) forms.Calm
unfolding event_text
form_calm = record { into = λ v can. (record { form_is = refl; can = tt }, refl); back = back_calm }
