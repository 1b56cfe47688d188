-- What the entries of a node say of it: those that it accepted are of its epochs' nodes and stand in its pages, and those that were refilled are no holes where a loss plan has a record; and how far what it was told to be known good may rise after a page.
use Rattle.std.proofs.Common.{◌≡◌, ◌∙◌, ◌⊎◌, ◌≤◌, ◌<◌, ℕ, zero, suc, inl, inr, refl, ap, sym, subst, Bool, true, false, ◌&&◌, nat_lt, nat_le, cond, List, [], ◌∷◌, Option, Some, None, is_some, arith}
use Rattle.std.specs.Option.{unwrap_or}
use Rattle.std.specs.Ordering.{nat_cmp}
use Rattle.std.specs.BTreeMap.{is_at}
use Rattle.std.proofs.lemmas.Bool.{and_from, cases_Bool, cases_lt, lt-ltb, le-leb}
use Rattle.ld_table.specs.Table.{find}
use Rattle.ld_table.proofs.Laws.{put_cases}
use Rattle.ld_lsn.specs.Number.{epoch_of}
use Rattle.ld_config.specs.declared.config.Config.{Config}
use Rattle.ld_msg.specs.declared.msg.Entry.{Entry}
use Rattle.ld_msg.specs.declared.msg.Msg.{Msg}
use Rattle.ld_msg.specs.declared.msg.Body.TheVariants as bodies
use Rattle.ld_op.specs.declared.op.Op.{Op}
use Rattle.ld_op.specs.declared.op.Op.TheVariants as ops
use Rattle.ld_op.specs.Plain.{Plain, Log, log_of, empty_log, unformatted, is_lost, summary_at, epoch_zero, lng_at, apply, with_log, lost_logs, lost_log}
use Rattle.ld_op.proofs.Moves.{taken_from}
use Rattle.ld_msg.specs.Digest.{is_bridge}
use Rattle.ld_msg.specs.Register.{Register, lce_of}
use Rattle.ld_machine.specs.Config.{fixed_at}
use Rattle.ld_machine.specs.World.{Made, In, from_node}
use Rattle.ld_safety.proofs.Lists.{not_none, not_both}
use Rattle.ld_safety.proofs.NodeSteps.{Served}
use Rattle.ld_safety.proofs.HoldSteps.{is_format, same_generation}
use Rattle.ld_safety.proofs.Registers.{Reached}
use Rattle.ld_safety.proofs.Settled.{HoleFine}
use Rattle.ld_safety.proofs.LostFull.{FullLog, keep_was, keys_was, refill_found}
use Rattle.ld_safety.proofs.LostFullKept.{FullPlain}
use Rattle.ld_safety.proofs.Fallen.{EmptyBlank}
use Rattle.ld_safety.proofs.PagesShow.{ShownBy, OpShows, op_shown}
use Rattle.ld_safety.proofs.LostUnserved.{FullClean}
use Rattle.ld_safety.proofs.LngLow.{PlanLow, LowAt, op_low, format_lng}
use Rattle.ld_safety.proofs.Protocol.{plan_of}
use Rattle.ld_safety.proofs.InSet.{StoreLng}

-- where an entry comes from
abbrev pub Accepts : Op → ℕ → ℕ → Entry → Type 0
Accepts o l k x = (lng : ℕ) × (e : Entry) × (o ≡ ops.Accept l lng e) × (k ≡ e.number) × (x ≡ e)

abbrev pub Refills : Op → ℕ → ℕ → Entry → Type 0
Refills o l k x = (xs : List Entry) × (o ≡ ops.Refill l xs) × In x xs × (x.number ≡ k)

with_was : (p : Plain) (j : ℕ) (h : Log) (o : Op) (l k : ℕ) (x : Entry) → (find k h.entries ≡ Some x → (find k (log_of p j).entries ≡ Some x) ⊎ (Accepts o j k x ⊎ Refills o j k x)) → find k (log_of (with_log p j h) l).entries ≡ Some x → (find k (log_of p l).entries ≡ Some x) ⊎ (Accepts o l k x ⊎ Refills o l k x)
with_was p j h o l k x f q = elim (put_cases l j h p.logs) [
  | inl a ↦ subst (λ z. (find k (log_of p z).entries ≡ Some x) ⊎ (Accepts o z k x ⊎ Refills o z k x)) (sym a.0) (f (subst (λ (z : Option Log). find k (unwrap_or z empty_log).entries ≡ Some x) a.1 q))
  | inr a ↦ inl (subst (λ (z : Option Log). find k (unwrap_or z empty_log).entries ≡ Some x) a.1 q)
]

pub op_was : (p : Plain) (o : Op) (l k : ℕ) (x : Entry) → is_format o ≡ false → find k (log_of (apply p o) l).entries ≡ Some x → (find k (log_of p l).entries ≡ Some x) ⊎ (Accepts o l k x ⊎ Refills o l k x)
unfolding apply
op_was p (ops.Format g ds) l k x n q = absurd cc
op_was p (ops.Accept j lng e) l k x n q = with_was p j _ (ops.Accept j lng e) l k x (λ h. elim (taken_from (log_of p j) lng e k x h) [ inl a ↦ inr (inl (lng, e, refl, a.0, a.1)) | inr a ↦ inl a ]) q
op_was p (ops.Seal j s) l k x n q = with_was p j _ (ops.Seal j s) l k x (λ h. inl h) q
op_was p (ops.Clean j c y) l k x n q = with_was p j _ (ops.Clean j c y) l k x (λ h. inl (keep_was _ k (log_of p j).entries x h)) q
op_was p (ops.Trim j t) l k x n q = with_was p j _ (ops.Trim j t) l k x (λ h. inl (keys_was _ k (log_of p j).entries x h)) q
op_was p (ops.Refill j xs) l k x n q = with_was p j _ (ops.Refill j xs) l k x (λ h. elim (refill_found xs (log_of p j).entries k x h) [ inl a ↦ inl a | inr a ↦ inr (inr (xs, refl, a.0, a.1)) ]) q
op_was p (ops.Refilled j) l k x n q = with_was p j _ (ops.Refilled j) l k x (λ h. inl h) q

with_lost_to : (p : Plain) (j : ℕ) (h : Log) (l : ℕ) → h.lost_to ≡ (log_of p j).lost_to → (log_of (with_log p j h) l).lost_to ≡ (log_of p l).lost_to
with_lost_to p j h l q = elim (put_cases l j h p.logs) [
  | inl a ↦ ap (λ (z : Option Log). (unwrap_or z empty_log).lost_to) a.1 ∙ (q ∙ ap (λ z. (log_of p z).lost_to) (sym a.0))
  | inr a ↦ ap (λ (z : Option Log). (unwrap_or z empty_log).lost_to) a.1
]

pub op_lost_to : (p : Plain) (o : Op) (l : ℕ) → is_format o ≡ false → (log_of (apply p o) l).lost_to ≡ (log_of p l).lost_to
unfolding apply
op_lost_to p (ops.Format g ds) l n = absurd cc
op_lost_to p (ops.Accept j lng e) l n = with_lost_to p j _ l refl
op_lost_to p (ops.Seal j s) l n = with_lost_to p j _ l refl
op_lost_to p (ops.Clean j c y) l n = with_lost_to p j _ l refl
op_lost_to p (ops.Trim j t) l n = with_lost_to p j _ l refl
op_lost_to p (ops.Refill j xs) l n = with_lost_to p j _ l refl
op_lost_to p (ops.Refilled j) l n = with_lost_to p j _ l refl

-- an epoch that is served isn't one that the log was lost for
pub served_later : (g : Log) (e : ℕ) → FullLog g → 0 < e → Served g e → g.lost_to < e
served_later g e F pos v = elim (cases_lt g.lost_to e) [
  | inl a ↦ a
  | inr a ↦ elim (cases_Bool g.lost) [
    | inl t ↦ absurd (not_both (is_lost g e) (and_from g.lost (nat_lt 0 e && nat_le e g.lost_to) t (and_from (nat_lt 0 e) (nat_le e g.lost_to) (lt-ltb 0 e pos) (le-leb e g.lost_to a))) v.found_here)
    | inr t ↦ absurd (let u : is_some (summary_at g e) ≡ false = ap is_some v.unclean in not_both (is_some (summary_at g e)) (F.clean t e pos a) u)
  ]
]

-- epoch 0 is clean
pub served_positive : (g : Log) (e : ℕ) → Served g e → 0 < e
unfolding summary_at
served_positive g zero v = absurd (let z : Some epoch_zero ≡ None = v.unclean in cc)
served_positive g (suc e) v = omega arith

module _ (c : Config) (made : List Made) (r : Register) (sent : List Msg) where
  -- no hole where a loss plan has a record, of a closed epoch, and no bridge
  abbrev pub HoleClosed : ℕ → Entry → Type 0
  HoleClosed l x = HoleFine made l x.number x.what × (epoch_of x.number ≤ lce_of r l) × (is_bridge x.what ≡ false)

  abbrev pub OfSet : ℕ → ℕ → ℕ → Type 0
  OfSet y l k = Reached r l (epoch_of k) × In y (fixed_at c r l (epoch_of k))

  pub record Marked (y : ℕ) (p : Plain) : Type 0 where
    pub of_set : (l k : ℕ) (x : Entry) → find k (log_of p l).entries ≡ Some x → (log_of p l).lost_to < epoch_of k → OfSet y l k
    pub shown : (l b from upto t lng : ℕ) (es : List Entry) → In (from_node l y b (bodies.DigestPage from upto t lng es)) sent → ShownBy (log_of p l) b from upto es
    pub refilled : (l k : ℕ) (x : Entry) → find k (log_of p l).entries ≡ Some x → 0 < epoch_of k → epoch_of k ≤ (log_of p l).lost_to → HoleClosed l x
    pub blank : EmptyBlank p
    pub low : (l b from upto t lng : ℕ) (es : List Entry) → In (from_node l y b (bodies.DigestPage from upto t lng es)) sent → epoch_of from < b → LowAt made p l (epoch_of from) b lng

  -- what an op needs
  pub record OpMarks (y : ℕ) (p : Plain) (o : Op) : Type 0 where
    pub plain : is_format o ≡ false
    pub formatted : 0 < p.generation
    pub accept : (l lng : ℕ) (e : Entry) → o ≡ ops.Accept l lng e → Served (log_of p l) (epoch_of e.number) × ((log_of p l).sealed ≤ e.ballot) × OfSet y l e.number × StoreLng made l e.ballot e.number lng
    pub refilled : (l : ℕ) → o ≡ ops.Refilled l → FullClean (log_of p l)
    pub refill : (l : ℕ) (xs : List Entry) → o ≡ ops.Refill l xs → (e : Entry) → In e xs → (epoch_of e.number ≤ (log_of p l).lost_to) × HoleClosed l e
    pub sealed : (l b from upto t lng : ℕ) (es : List Entry) → In (from_node l y b (bodies.DigestPage from upto t lng es)) sent → Served (log_of p l) (epoch_of from) → b ≤ (log_of p l).sealed

  shows_op : (y : ℕ) (p : Plain) (o : Op) → OpMarks y p o → (l b from upto t lng : ℕ) (es : List Entry) → In (from_node l y b (bodies.DigestPage from upto t lng es)) sent → OpShows p l b from o
  shows_op y p (ops.Format g ds) h l b from upto t lng es i = tt
  shows_op y p (ops.Accept j lg e) h l b from upto t lng es i = let a = h.accept j lg e refl in (a.0, a.1, h.sealed l b from upto t lng es i)
  shows_op y p (ops.Seal j s) h l b from upto t lng es i = tt
  shows_op y p (ops.Clean j e z) h l b from upto t lng es i = tt
  shows_op y p (ops.Trim j z) h l b from upto t lng es i = tt
  shows_op y p (ops.Refill j xs) h l b from upto t lng es i = λ e k. (h.refill j xs refl e k).0
  shows_op y p (ops.Refilled j) h l b from upto t lng es i = tt

  pub op_marked : (y : ℕ) (p : Plain) (o : Op) → FullPlain p → OpMarks y p o → Marked y p → Marked y (apply p o)
  op_marked y p o F h M = record {
    of_set = λ l k x q lt. (let n = op_lost_to p o l h.plain in elim (op_was p o l k x h.plain q) [
      | inl a ↦ M.of_set l k x a (omega arith)
      | inr (inl a) ↦ subst (OfSet y l) (sym a.3) (h.accept l a.0 a.1 a.2).2
      | inr (inr a) ↦ absurd (let z = (h.refill l a.0 a.1 x a.2).0 in let w = ap epoch_of a.3 in omega arith)
    ]);
    shown = λ l b from upto t lng es i. op_shown p o l b from upto es (shows_op y p o h l b from upto t lng es i) (M.shown l b from upto t lng es i);
    refilled = λ l k x q pos le. (let n = op_lost_to p o l h.plain in elim (op_was p o l k x h.plain q) [
      | inl a ↦ M.refilled l k x a pos (omega arith)
      | inr (inl a) ↦ absurd (let z = h.accept l a.0 a.1 a.2 in let v = served_later (log_of p l) (epoch_of a.1.number) (F l) z.2.0.0 z.0 in let w = ap epoch_of a.3 in omega arith)
      | inr (inr a) ↦ (h.refill l a.0 a.1 x a.2).1
    ]);
    blank = λ z l k. absurd (let n = same_generation p o h.plain in let w = h.formatted in omega arith);
    low = λ l b from upto t lng es i lt. op_low made p o l (epoch_of from) b lng h.plain h.refilled (λ g x q k. told_low l b from upto t lng es i lt g x (h.accept l g x q) k) (M.low l b from upto t lng es i lt);
  } where
    -- a store that a node accepts after a page is of a ballot of at least the page's
    told_low : (l b from upto t lng : ℕ) (es : List Entry) → In (from_node l y b (bodies.DigestPage from upto t lng es)) sent → epoch_of from < b → (g : ℕ) (x : Entry)
        → Served (log_of p l) (epoch_of x.number) × ((log_of p l).sealed ≤ x.ballot) × OfSet y l x.number × StoreLng made l x.ballot x.number g → epoch_of x.number ≡ epoch_of from → PlanLow made l (epoch_of from) b g
    told_low l b from upto t lng es i lt g x a k = let z = h.sealed l b from upto t lng es i (subst (Served (log_of p l)) k a.0) in let v = a.1 in elim a.3 [
      | inl q ↦ absurd (omega arith)
      | inr q ↦ (x.ballot, q.0, subst (λ e. In (plan_of l e x.ballot q.0) made) k q.1, omega arith, let u = q.2 in omega arith)
    ]

  nothing_there : (ds : List (ℕ × ℕ)) (l k : ℕ) → find k (unwrap_or (find l (lost_logs ds)) empty_log).entries ≡ None
  unfolding find
  nothing_there [] l k = refl
  nothing_there (d ∷ ds) l k = there_or (is_at (nat_cmp l) d.0) (find l (lost_logs ds)) (nothing_there ds l k) where
    there_or : (b : Bool) (o : Option Log) → find k (unwrap_or o empty_log).entries ≡ None → find k (unwrap_or (cond b (Some (lost_log d.1)) o) empty_log).entries ≡ None
    there_or true o h = refl
    there_or false o h = h

  -- a state without entries
  empty_marked : (y : ℕ) (p : Plain) → ((l k : ℕ) → find k (log_of p l).entries ≡ None) → ((l e : ℕ) → lng_at (log_of p l) e ≡ 0) → Marked y p
  empty_marked y p h g = record {
    of_set = λ l k x q. absurd (not_none (sym (h l k) ∙ q));
    shown = λ l b from upto t lng es i k f q. absurd (not_none (sym (h l k) ∙ q));
    refilled = λ l k x q. absurd (not_none (sym (h l k) ∙ q));
    blank = λ z l k. h l k;
    low = λ l b from upto t lng es i lt. inr (inl (let z = g l (epoch_of from) in omega arith));
  }

  pub format_marked : (y : ℕ) (p : Plain) (g : ℕ) (ds : List (ℕ × ℕ)) → Marked y (apply p (ops.Format g ds))
  unfolding apply
  format_marked y p g ds = empty_marked y _ (λ l k. nothing_there ds l k) (λ l e. format_lng ds l e)

  pub blank_marked : (y : ℕ) → Marked y unformatted
  unfolding find
  blank_marked y = empty_marked y unformatted (λ l k. refl) (λ l e. refl)
