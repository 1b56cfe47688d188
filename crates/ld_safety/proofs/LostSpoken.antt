-- A node that told a reader under a generation that it is lost: a record of that generation that was cut short makes it lost for nothing that it wasn't lost for before the record.
use Rattle.std.proofs.Common.{◌≡◌, ◌∙◌, ◌≤◌, ℕ, inl, inr, refl, ap, sym, subst, true, false, List, [], ◌∷◌, Option, Some, None, arith}
use Rattle.ld_config.specs.declared.config.Config.{Config}
use Rattle.ld_schedule.specs.declared.event.Picture.{Picture}
use Rattle.ld_msg.specs.declared.msg.Msg.{Msg}
use Rattle.ld_msg.specs.declared.msg.Who.TheVariants as whos
use Rattle.ld_msg.specs.declared.msg.Body.{Body}
use Rattle.ld_msg.specs.declared.msg.Body.TheVariants as bodies
use Rattle.ld_msg.specs.Reader.{on_answer, poll_asks}
use Rattle.ld_msg.specs.Register.{Register, Granted, generation_of, epochs_in, draw}
use Rattle.ld_op.specs.declared.op.Op.{Op}
use Rattle.ld_op.specs.declared.op.Op.TheVariants as ops
use Rattle.ld_op.specs.Plain.{Plain, log_of, is_lost, apply}
use Rattle.ld_machine.specs.Config.{looks_at}
use Rattle.ld_machine.specs.Disk.{Node, Cut, Fate, Made, FailsAt, CrashesAt, fate, new_node, keep_op, kept_by, cut_of, is_full_for, load, loaded_by, seen_too, Failed, op_calls}
use Rattle.ld_machine.specs.State.{State, finish, node_at, posted}
use Rattle.ld_machine.specs.Facts.{Happened}
use Rattle.ld_machine.specs.World.{World, In, Sent}
use Rattle.ld_machine.specs.Run.{after_step}
use Rattle.ld_machine.specs.Step as Step
use Rattle.ld_safety.proofs.Lists.{Some_inj, not_none, only, cond_both}
use Rattle.ld_safety.proofs.Traces.{Keeps, both_kept, beside_kept}
use Rattle.ld_safety.proofs.Base.{Base}
use Rattle.ld_safety.proofs.Events.{Serves, dispatch}
use Rattle.ld_safety.proofs.NodeCases.{NodeKeeps, node_cases}
use Rattle.ld_safety.proofs.HoldSteps.{is_format, handled_plain, released_parts}
use Rattle.ld_safety.proofs.LostNodes.{LostIn, lost_before, drawn_above}
use Rattle.ld_safety.proofs.LostStanding.{load_whole}
use Rattle.ld_safety.proofs.LostTalk.{TalkKeeps, talked, new_or_old}
use Rattle.ld_safety.proofs.LostRounds.{ask_answer, posted_to}
use Rattle.ld_safety.proofs.LostAlong.{Asked, asked_kept}
use Rattle.ld_safety.proofs.LostKept.{Standings, standings_kept}
use Rattle.ld_machine.specs.Calm.{Move}

-- a record of the generation that was cut short makes the node lost for nothing new
abbrev pub CutOld : Node → ℕ → Type 0
CutOld x g = (k : Cut) → x.cut ≡ Some k → k.plain.generation ≡ g → (l e : ℕ) → is_lost (log_of k.plain l) e ≡ true → is_lost (log_of x.plain l) e ≡ true

-- a node that is lost under the generation is lost in its plain state
pub lost_plain : (x : Node) (l e g : ℕ) → CutOld x g → LostIn x l e g → is_lost (log_of x.plain l) e ≡ true
lost_plain x l e g C h = elim h.held [
  | inl q ↦ subst (λ (p : Plain). is_lost (log_of p l) e ≡ true) q h.lost
  | inr q ↦ C q.0 q.1 (ap (λ (p : Plain). p.generation) (sym q.2) ∙ h.generation) l e (subst (λ (p : Plain). is_lost (log_of p l) e ≡ true) q.2 h.lost)
]

-- ---- one node ----
whole_old : (x : Node) (g : ℕ) → x.cut ≡ None → CutOld x g
whole_old x g n k q = absurd (not_none (sym n ∙ q))

-- the op makes a state of the generation lost for nothing new
abbrev OpOld : Node → Op → ℕ → Type 0
OpOld x o g = (apply x.plain o).generation ≡ g → (l e : ℕ) → is_lost (log_of (apply x.plain o) l) e ≡ true → is_lost (log_of x.plain l) e ≡ true

cut_here : (x : Node) (o : Op) (g : ℕ) (j k : Cut) → OpOld x o g → j.plain ≡ apply x.plain o → Some j ≡ Some k → k.plain.generation ≡ g → (l e : ℕ) → is_lost (log_of k.plain l) e ≡ true → is_lost (log_of x.plain l) e ≡ true
cut_here x o g j k h p q i l e t =
    let same : k.plain ≡ apply x.plain o = ap (λ (z : Cut). z.plain) (sym (Some_inj q)) ∙ p in
    h (ap (λ (z : Plain). z.generation) (sym same) ∙ i) l e (subst (λ (z : Plain). is_lost (log_of z l) e ≡ true) same t)

kept_old_by : (x : Node) (o : Op) (f : Fate) (g : ℕ) → x.cut ≡ None → OpOld x o g → CutOld (kept_by x o f) g
kept_old_by x o Made g n h k q = absurd (not_none (sym n ∙ q))
kept_old_by x o (FailsAt j) g n h k q = cut_here x o g (cut_of x o j false []) k h refl q
kept_old_by x o (CrashesAt j p) g n h k q = cut_here x o g (cut_of x o j true (p ∷ [])) k h refl q

kept_old : (x : Node) (o : Op) (g : ℕ) → x.cut ≡ None → OpOld x o g → CutOld (keep_op x o) g
unfolding keep_op
kept_old x o g n h = cond_both (is_full_for x o) (record x { status = Failed }) (kept_by x o (fate (op_calls x o) x.fault)) (λ z. CutOld z g) (λ t. whole_old x g n) (λ t. kept_old_by x o (fate (op_calls x o) x.fault) g n h)

plain_old : (x : Node) (o : Op) (g : ℕ) → is_format o ≡ false → x.cut ≡ None → CutOld (keep_op x o) g
plain_old x o g f n = kept_old x o g n (λ i l e. lost_before x.plain o l e f)

released_old : (x : Node) (l : ℕ) (b : Body) (g : ℕ) → CutOld x g → CutOld (Step.releases x l b) g
released_old x l (bodies.Release y) g h = h
released_old x l _ g h = h

seen_old : (x : Node) (v : Picture) (g : ℕ) (o : Option Cut) → x.cut ≡ o → CutOld x g → (k : Cut) → seen_too v o ≡ Some k → k.plain.generation ≡ g → (l e : ℕ) → is_lost (log_of k.plain l) e ≡ true → is_lost (log_of x.plain l) e ≡ true
seen_old x v g None e h k q i l n t = absurd (not_none q)
seen_old x v g (Some j) e h k q i l n t =
    let same : k.plain ≡ j.plain = ap (λ (z : Cut). z.plain) (sym (Some_inj q)) in
    h j e (ap (λ (z : Plain). z.generation) (sym same) ∙ i) l n (subst (λ (z : Plain). is_lost (log_of z l) n ≡ true) same t)

loaded_old_by : (x : Node) (f : Fate) (g : ℕ) → CutOld x g → CutOld (loaded_by x f) g
loaded_old_by x Made g h = λ k q. absurd (not_none q)
loaded_old_by x (FailsAt j) g h = h
loaded_old_by x (CrashesAt j p) g h = seen_old x p g x.cut refl h

loaded_old : (x : Node) (g : ℕ) → CutOld x g → CutOld (load x) g
unfolding load
loaded_old x g h = loaded_old_by x (fate 1 x.fault) g h

-- a format draws a generation above all before
formatted_old : (x : Node) (r k : Register) (n g : ℕ) → (load x).cut ≡ None → draw r n ≡ record { register = k; answer = Granted } → g ≤ generation_of r n → CutOld (keep_op (load x) (ops.Format (generation_of k n) (epochs_in k.logs))) g
unfolding apply
formatted_old x r k n g c i b = kept_old (load x) (ops.Format (generation_of k n) (epochs_in k.logs)) g c (λ q l e t. absurd (let z = drawn_above r n k i in let v : generation_of k n ≡ g = q in omega arith))

olds_keep : (c : Config) (s : State) (v : Move) → ((n l : ℕ) → Serves c s n l → (node_at s n).cut ≡ None) → NodeKeeps c s v (λ y x. (g : ℕ) → g ≤ generation_of s.register y → CutOld (node_at s y) g → CutOld x g)
olds_keep c s v U = record {
  all = λ y g b h. h;
  hears = λ n m i t u g b h. released_old (node_at s n) m.log m.body g h;
  keeps = λ n m o i t u q g b h. plain_old (Step.releases (node_at s n) m.log m.body) o g (handled_plain _ _ _ _ _ _ m.body o q) ((released_parts (node_at s n) m.log m.body).1 ∙ U n m.log u);
  loads = λ n g b h. loaded_old (node_at s n) g h;
  formats = λ n r k w i g b h. formatted_old (node_at s n) s.register r n g (load_whole (node_at s n) w) i b;
  cleans = λ n j k y u q g b h. plain_old (node_at s n) (ops.Clean j k y) g refl (U n j u);
  rebuilds = λ n j u q g b h. plain_old (node_at s n) (ops.Refilled j) g refl (U n j u);
  stops = λ n g b h. h;
  wipes = λ n g b h. whole_old new_node g refl;
  faults = λ n f g b h. h;
}

-- ---- along a run ----

-- of each answer that a reader was sent: the node that says that it is lost
abbrev pub SaysOld : World → Msg → Type 0
SaysOld w m = (k n u g end : ℕ) → m.to ≡ whos.Reader k → m.body ≡ bodies.LostHere n u g end → CutOld (node_at w.state (Step.sender_node m.from)) g

abbrev pub Spoken : World → Type 0
Spoken w = (m : Msg) → Sent w m → SaysOld w m

module _ (c : Config) (hs : List Happened) (w : World) (e : Move) (A : Asked c hs w) (S : Standings c hs w) (P : Spoken w) where
  whole : (n l : ℕ) → Serves c w.state n l → (node_at w.state n).cut ≡ None
  whole n l v = ((S.1 n l).up v.up).0

  old_step : (y g : ℕ) → g ≤ generation_of w.state.register y → CutOld (node_at w.state y) g → CutOld (node_at (after_step c w e).state y) g
  unfolding finish
  old_step = dispatch c w.state e (λ d m. (y : ℕ) → (g : ℕ) → g ≤ generation_of w.state.register y → CutOld (node_at w.state y) g → CutOld (node_at d.state y) g) A.0.0.0
      (node_cases c w.state e (λ y x. (g : ℕ) → g ≤ generation_of w.state.register y → CutOld (node_at w.state y) g → CutOld x g) (olds_keep c w.state e whole))

  not_reader : (n k : ℕ) → whos.Node n ≡ whos.Reader k → ⊥
  not_reader n k h = cc

  posted_old : (r l : ℕ) (bs : List (ℕ × Body)) (m : Msg) → In m (posted (whos.Reader r) l bs) → SaysOld (after_step c w e) m
  posted_old r l bs m i k n u g end t b = let p = posted_to (whos.Reader r) l bs m i in absurd (not_reader p.0.0 k (sym (ap (λ (y : Msg). y.to) p.2) ∙ t))

  -- a node that answers is up, and has no record that was cut short
  answer_old : (n : ℕ) (m : Msg) (x : Body) → In m w.state.network.sent → Serves c w.state n m.log → (Step.node_handles n (node_at w.state n) m).answer ≡ Some x → SaysOld (after_step c w e) (record { from = whos.Node n; to = m.from; log = m.log; body = x })
  answer_old n m x i v h k number u g end t b =
      let p : Plain = (node_at w.state n).plain in
      let a = (ask_answer n p.generation (log_of p m.log) m.log _ _ m.body x (A.1.1.asks m k i t) h).lost number u g end b in
      old_step n g (let d = A.1.0.0 n p (inl refl) in let z = a.0 in omega arith) (whole_old (node_at w.state n) g (whole n m.log v))

  spoken_talk : TalkKeeps c w.state e (λ ms ds. (m : Msg) → In m ms → SaysOld (after_step c w e) m)
  spoken_talk = record {
    quiet = λ m i. absurd i;
    elsewhere = λ ms h m i k n u g end t b. absurd (not_reader (h m i).node k (sym (h m i).to ∙ t));
    answers = λ n m x i t v h z j. subst (SaysOld (after_step c w e)) (sym (only z _ j)) (answer_old n m x i v h);
    reads = λ name d m i t v. let a = on_answer (looks_at c w.state.register d.log) d (Step.sender_node m.from) m.body in posted_old a.reader.number a.reader.log a.asks;
    polls = λ name d v. posted_old d.number d.log (poll_asks (looks_at c w.state.register d.log) d);
    opens = λ style name l from until o m i. absurd i;
  }

  spoken_step : Spoken (after_step c w e)
  spoken_step m i = let t = talked c w.state e (λ ms ds. (m : Msg) → In m ms → SaysOld (after_step c w e) m) spoken_talk A.0.0.0 in elim (new_or_old c w.state e m t.same i) [
    | inl o ↦ λ k n u g end q b. old_step (Step.sender_node m.from) g (A.1.1.generations m k n u g end o q b) (P m o k n u g end q b)
    | inr o ↦ t.talk m o
  ]

abbrev pub Answering : Config → List Happened → World → Type 0
Answering c hs w = (Asked c hs w × (Base c hs w × Standings c hs w)) × Spoken w

pub answering_kept : (c : Config) → Keeps c (Answering c)
answering_kept c = beside_kept c (λ hs w. Asked c hs w × (Base c hs w × Standings c hs w)) (λ hs w. Spoken w) (both_kept c (Asked c) (λ hs w. Base c hs w × Standings c hs w) (asked_kept c) (standings_kept c))
    (λ m i. absurd i) (λ hs w e B C h. spoken_step c hs w e B.0 B.1.1 h)
