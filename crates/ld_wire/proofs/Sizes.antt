-- How many bytes a frame has.
use Rattle.std.proofs.Common.{◌≡◌, ◌≤◌, ◌+◌, ◌*◌, ℕ, List, [], ◌∷◌, ◌++◌, refl, ap, ◌∙◌, length, arith, length-append}
use Rattle.byteorder.specs.Endian.{big_bytes}
use Rattle.byteorder.specs.Numbers.{length-bytes_high_first}
use Rattle.ld_msg.specs.declared.msg.Entry.{Entry}
use Rattle.ld_msg.specs.declared.msg.Who.{Who}
use Rattle.ld_msg.specs.declared.msg.Who.TheVariants as whos
use Rattle.ld_msg.specs.declared.msg.What.{What}
use Rattle.ld_msg.specs.declared.msg.What.TheVariants.{Rec, Hole, Bridge, Plug, Withheld}
use Rattle.ld_msg.specs.declared.msg.Summary.{Summary}
use Rattle.ld_msg.specs.declared.msg.Msg.{Msg}
use Rattle.ld_msg.specs.declared.msg.Body.{Body}
use Rattle.ld_msg.specs.declared.msg.Body.TheVariants as bodies
use Rattle.ld_msg.specs.Bounds.{IsShort, AreEntries, Fits, IsMessage}
use Rattle.ld_fields.specs.Items.{what_bytes, entry_bytes, entries_bytes, summary_bytes, flag}
use Rattle.ld_wire.specs.Frames.{who_bytes, page_bytes, kind_of, body_bytes, msg_bytes, CanCarry}

-- a message that fits can be carried
pub fits_carried : (from to : Who) (b : Body) → Fits from to b → CanCarry b
fits_carried from to (bodies.Store n lng x) h = h.2.short
fits_carried from to (bodies.Stored n) h = tt
fits_carried from to (bodies.SealedHere n k) h = tt
fits_carried from to (bodies.LostHere n round g end) h = tt
fits_carried from to (bodies.CleanHere n y) h = tt
fits_carried from to (bodies.TrimmedHere n t) h = tt
fits_carried from to (bodies.DigestAsk n) h = tt
fits_carried from to (bodies.DigestPage n upto t lng es) h = (h.1.few, h.1.entries)
fits_carried from to (bodies.Clean e y) h = tt
fits_carried from to (bodies.Release n) h = tt
fits_carried from to (bodies.Trim t) h = tt
fits_carried from to (bodies.ReadAsk round n) h = tt
fits_carried from to (bodies.ReadPage round n upto c es) h = (h.1.few, h.1.entries)
fits_carried from to (bodies.ReadEnded round n end loss) h = tt
fits_carried from to (bodies.ReadTrim round n t) h = tt
fits_carried from to (bodies.ReadWait round n r) h = tt
fits_carried from to (bodies.ReadOne round n set excluded) h = tt

-- ---- how many bytes there are ----

many : (n x : ℕ) (ys : List ℕ) → length (big_bytes n x ++ ys) ≡ n + length ys
many n x ys = length-append (big_bytes n x) ys ∙ ap (λ k. k + length ys) (length-bytes_high_first n x)

what_many : (w : What) → IsShort w → length (what_bytes w) ≤ 65538
what_many (Rec p) h = let a = many 1 0 (big_bytes 2 (length p) ++ p) in let b = many 2 (length p) p in omega arith
what_many Hole h = omega arith
what_many Bridge h = omega arith
what_many Plug h = omega arith
what_many Withheld h = omega arith

entry_many : (e : Entry) → IsShort e.what → length (entry_bytes e) ≤ 65550
entry_many e h = let a = many 8 e.number (big_bytes 4 e.ballot ++ what_bytes e.what) in let b = many 4 e.ballot (what_bytes e.what) in let c = what_many e.what h in omega arith

entries_many : (es : List Entry) → AreEntries es → length (entries_bytes es) ≤ 65550 * length es
entries_many [] h = omega arith
entries_many (e ∷ es) h = let a = length-append (entry_bytes e) (entries_bytes es) in let b = entry_many e h.0.short in let c = entries_many es h.1 in omega arith

page_many : (es : List Entry) → length es ≤ 64 → AreEntries es → length (page_bytes es) ≤ 4195202
page_many es l h = let a = many 2 (length es) (entries_bytes es) in let b = entries_many es h in omega arith

summary_many : (y : Summary) → length (summary_bytes y) ≡ 21
summary_many y = refl

pub body_many : (b : Body) → CanCarry b → length (body_bytes b) ≤ 4195231
unfolding body_bytes
body_many (bodies.Store n lng x) h = let a = many 8 n (big_bytes 4 lng ++ what_bytes x) in let b = many 4 lng (what_bytes x) in let c = what_many x h in omega arith
body_many (bodies.Stored n) h = omega arith
body_many (bodies.SealedHere n k) h = omega arith
body_many (bodies.LostHere n round g end) h = omega arith
body_many (bodies.CleanHere n y) h = omega arith
body_many (bodies.TrimmedHere n t) h = omega arith
body_many (bodies.DigestAsk n) h = omega arith
body_many (bodies.DigestPage n upto t lng es) h = let p = page_many es h.0 h.1 in let a = many 8 n (big_bytes 8 upto ++ (big_bytes 8 t ++ (big_bytes 4 lng ++ page_bytes es))) in let b = many 8 upto (big_bytes 8 t ++ (big_bytes 4 lng ++ page_bytes es)) in let c = many 8 t (big_bytes 4 lng ++ page_bytes es) in let d = many 4 lng (page_bytes es) in omega arith
body_many (bodies.Clean e y) h = omega arith
body_many (bodies.Release n) h = omega arith
body_many (bodies.Trim t) h = omega arith
body_many (bodies.ReadAsk round n) h = omega arith
body_many (bodies.ReadPage round n upto c es) h = let p = page_many es h.0 h.1 in let a = many 4 round (big_bytes 8 n ++ (big_bytes 8 upto ++ (big_bytes 1 (flag c) ++ page_bytes es))) in let b = many 8 n (big_bytes 8 upto ++ (big_bytes 1 (flag c) ++ page_bytes es)) in let d = many 8 upto (big_bytes 1 (flag c) ++ page_bytes es) in let e = many 1 (flag c) (page_bytes es) in omega arith
body_many (bodies.ReadEnded round n end loss) h = omega arith
body_many (bodies.ReadTrim round n t) h = omega arith
body_many (bodies.ReadWait round n r) h = omega arith
body_many (bodies.ReadOne round n set excluded) h = omega arith

who_many : (w : Who) (ys : List ℕ) → length (who_bytes w ++ ys) ≡ 5 + length ys
who_many (whos.Node n) ys = length-append (who_bytes (whos.Node n)) ys
who_many (whos.Sequencer e) ys = length-append (who_bytes (whos.Sequencer e)) ys
who_many (whos.Reader r) ys = length-append (who_bytes (whos.Reader r)) ys

-- no message is too long, and none has no byte
pub msg_many : (m : Msg) → IsMessage m → (1 ≤ length (msg_bytes m)) × (length (msg_bytes m) ≤ 8388608)
unfolding msg_bytes
msg_many m h =
    let a = many 1 (kind_of m.body) (who_bytes m.from ++ (who_bytes m.to ++ (big_bytes 4 m.log ++ body_bytes m.body))) in
    let b = who_many m.from (who_bytes m.to ++ (big_bytes 4 m.log ++ body_bytes m.body)) in
    let c = who_many m.to (big_bytes 4 m.log ++ body_bytes m.body) in
    let d = many 4 m.log (body_bytes m.body) in
    let e = body_many m.body (fits_carried m.from m.to m.body h.fits) in
    (omega arith, omega arith)
