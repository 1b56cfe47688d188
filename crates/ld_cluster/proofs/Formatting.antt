-- Nodes that format their stores.
use Rattle.std.proofs.Common.{◌≡◌, ◌+◌, ◌==◌, ℕ, Bool, true, false, cond, ◌&&◌, nat_le, nat_lt, nat_cmp, ◌||◌, List, [], ◌∷◌, ◌++◌, arith, Option, Some, Ok, Err, refl, ap, sym, ◌∙◌, subst, if◌then◌else◌}
use Rattle.std.specs.Option.{unwrap_or}
use Rattle.std.specs.List.{AllByRecursion}
use Rattle.std.specs.Cmp.{nat_cmp_total, eq_by_cmp_equiv}
use Rattle.std.specs.BTreeMap.{is_at}
use Rattle.std.proofs.lemmas.Bool.{ne_eqb}
use Rattle.ld_table.specs.Table.{find, put}
use Rattle.ld_table.proofs.Laws.{tied}
use Rattle.ld_ids.specs.declared.set.Spec.{Spec}
use Rattle.ld_bounds.specs.Registers.{IsKnownLog}
use Rattle.ld_config.specs.declared.config.Config.{Config}
use Rattle.ld_schedule.specs.declared.event.Event.TheVariants as events
use Rattle.ld_transcript.specs.declared.line.Line.{Line}
use Rattle.ld_transcript.specs.declared.line.Line.TheVariants as lines
use Rattle.ld_msg.specs.declared.msg.Msg.{Msg}
use Rattle.ld_msg.specs.Register.{Register, Changed, Answer, Granted, AtLimit, Behind, Overtaken, Fails, draw, change, made, unmade, is_made, falls, generation_of, generation_limit, epochs_in, Epochs, no_epochs, journal_limit, record_length}
use Rattle.ld_op.specs.declared.op.Op.{Op}
use Rattle.ld_op.specs.declared.op.Op.TheVariants as ops
use Rattle.ld_machine.specs.Config.{has_node}
use Rattle.ld_machine.specs.Disk.{Node, Kept, Written, DiskFailed, Crashed, JournalFull, Fate, Made, FailsAt, CrashesAt, fate, kept_end, is_blank, keep_op, keep_end, load, load_end}
use Rattle.ld_machine.specs.State.{State, Done, node_at, with_node, with_register, unchanged}
use Rattle.ld_machine.specs.Step.{happens, formats, formats_loaded, formats_with, formats_by, format_lines, lost_line, lost_lines, keeps_op, kept_lines, is_written}
use Rattle.ld_register.specs.Calls.{ended, drawn, after_draw, handed, is_full, draw_length}
use Rattle.ld_register.specs.declared.fault.RegisterFault.{RegisterFault}
use Rattle.ld_register.specs.declared.fault.RegisterFault.TheVariants as faults
use Rattle.ld_register.specs.declared.register.Drawn.{Drawn}
use Rattle.ld_register.specs.Arming.{Foresees}
use Rattle.ld_host.specs.Standing.{AreHosts, node_in}
use Rattle.ld_host.specs.Done.{shown_kept, FormatsAs}
use Rattle.ld_host.specs.declared.kept.Kept.{Kept as HostKept}
use Rattle.ld_host.specs.declared.kept.Formatted.{Formatted}
use Rattle.ld_host.specs.declared.kept.Formatted.TheVariants as formatted
use Rattle.ld_clients.specs.declared.outcome.Outcome.{Outcome}
use Rattle.ld_cluster.specs.declared.cluster.Cluster.{Cluster}
use Rattle.ld_cluster.specs.Standing.{config_of, past_of, Parts}
use Rattle.ld_cluster.specs.Outcomes.{IsDone}
use Rattle.ld_cluster.specs.Formats.{refused_line, Draws, told_of, told_by, epoch_among, lost_among}
use Rattle.ld_cluster.proofs.Chosen.{where_yes, where_not, at_put, put-put}
use Rattle.ld_cluster.proofs.Parting.{nothing_done, hosted_done}

-- ---- a draw ----

-- it is granted, or at its limit with nothing changed, or it fails; the logs stay
data Draws_by (r : Register) (d : Changed) : Type 0 where
  Grants : d.answer ≡ Granted → Draws_by r d
  Limits : d.answer ≡ AtLimit → d.register ≡ r → Draws_by r d
  Falls : d.answer ≡ Fails → Draws_by r d

record Drew (r : Register) (d : Changed) : Type 0 where
  by : Draws_by r d
  logs : d.register.logs ≡ r.logs

ends_by : (r s : Register) (b : Bool) → Draws_by r (record { register = s; answer = if b then Fails else Granted })
ends_by r s true = Falls refl
ends_by r s false = Grants refl

logs_by : (r m u : Register) (a b : Bool) → m.logs ≡ r.logs → u.logs ≡ r.logs → (if a then r else if b then m else u).logs ≡ r.logs
logs_by r m u true b h k = refl
logs_by r m u false true h k = h
logs_by r m u false false h k = k

drew_change : (r n : Register) (body : ℕ) → n.logs ≡ r.logs → Drew r (change r n body)
unfolding change
drew_change r n body h = record {
  by = ends_by r _ (nat_lt journal_limit (r.length + record_length body) || falls r.armed);
  logs = logs_by r (made r n body) (unmade r) (nat_lt journal_limit (r.length + record_length body)) (is_made r.armed) h refl;
}

drew_by : (r : Register) (b : Bool) (d : Changed) → Drew r d → Drew r (if b then record { register = r; answer = AtLimit } else d)
drew_by r true d h = record { by = Limits refl refl; logs = refl }
drew_by r false d h = h

drew : (r : Register) (n : ℕ) → Drew r (draw r n)
unfolding draw
drew r n = drew_by r (nat_le generation_limit (generation_of r n)) _ (drew_change r (record r { generations = put n (generation_of r n + 1) r.generations }) 6 refl)

granted_is : (a : Answer) (full : Bool) (given d : Drawn) → ended a full faults.GenLimit given ≡ Ok d → (a ≡ Granted) × (given ≡ d)
granted_is Granted full given d h = (refl, cc)
granted_is AtLimit full given d h = absurd cc
granted_is (Behind l) full given d h = absurd cc
granted_is (Overtaken k) full given d h = absurd cc
granted_is Fails true given d h = absurd cc
granted_is Fails false given d h = absurd cc

-- ---- how it ends ----

not_loaded : (c : Config) (t : State) (n : ℕ) (k : HostKept) (f : Fate) → shown_kept k ≡ kept_end f → is_written (kept_end f) ≡ false
    → formats_loaded c t n (kept_end f) ≡ record { state = t; lines = kept_lines n [] (shown_kept k); sends = [] }
not_loaded c t n k Made h w = absurd cc
not_loaded c t n k (FailsAt i) h w = ap (λ e. record { state = t; lines = kept_lines n [] e; sends = [] }) (sym h)
not_loaded c t n k (CrashesAt i p) h w = ap (λ e. record { state = t; lines = kept_lines n [] e; sends = [] }) (sym h)

limit_is : (full : Bool) (given : Drawn) (f : RegisterFault) → ended AtLimit full faults.GenLimit given ≡ Err f → faults.GenLimit ≡ f
limit_is full given f h = cc

fails_is : (c : Config) (t : State) (n : ℕ) (r : Register) (full : Bool) (given : Drawn) (f : RegisterFault) → ended Fails full faults.GenLimit given ≡ Err f
    → formats_by c t n r Fails ≡ record { state = with_register t r; lines = refused_line n f ∷ []; sends = [] }
fails_is c t n r true given f h = let e : faults.Full ≡ f = cc in ap (λ x. record { state = with_register t r; lines = refused_line n x ∷ []; sends = [] }) e
fails_is c t n r false given f h = let e : faults.Failed ≡ f = cc in ap (λ x. record { state = with_register t r; lines = refused_line n x ∷ []; sends = [] }) e

refused_by : (c : Config) (t : State) (n : ℕ) (d : Changed) (full : Bool) (given : Drawn) (f : RegisterFault) → Draws_by t.register d → ended d.answer full faults.GenLimit given ≡ Err f
    → formats_with c t n d ≡ record { state = with_register t d.register; lines = refused_line n f ∷ []; sends = [] }
refused_by c t n d full given f (Grants a) h = absurd (let e = ap (λ x. ended x full faults.GenLimit given) (sym a) ∙ h in cc)
refused_by c t n d full given f (Limits a r) h =
    let e : faults.GenLimit ≡ f = limit_is full given f (ap (λ x. ended x full faults.GenLimit given) (sym a) ∙ h) in
    ap (formats_by c t n d.register) a ∙ (ap (λ x. record { state = t; lines = refused_line n x ∷ []; sends = [] }) e
    ∙ ap (λ x. record { state = with_register t x; lines = refused_line n f ∷ []; sends = [] }) (sym r))
refused_by c t n d full given f (Falls a) h =
    ap (formats_by c t n d.register) a ∙ fails_is c t n d.register full given f (ap (λ x. ended x full faults.GenLimit given) (sym a) ∙ h)

abbrev nothing : List Msg
nothing = []

no_sends : (b : Bool) → (if b then nothing else nothing) ≡ nothing
no_sends true = refl
no_sends false = refl

kept_as : (s : State) (n : ℕ) (x : Node) (r : Register) (o : Op) (ls : List Line) → keeps_op (with_register (with_node s n x) r) n o ls []
    ≡ record { state = record s { nodes = put n (keep_op x o) s.nodes; register = r }; lines = kept_lines n ls (keep_end x o); sends = [] }
kept_as s n x r o ls =
    ap (λ y. record { state = record s { nodes = put n (keep_op y o) (put n x s.nodes); register = r }; lines = kept_lines n ls (keep_end y o); sends = if is_written (keep_end y o) then [] else [] }) (at_put s n x)
    ∙ (ap (λ m. record { state = record s { nodes = m; register = r }; lines = kept_lines n ls (keep_end x o); sends = if is_written (keep_end x o) then [] else [] }) (put-put n x (keep_op x o) s.nodes)
    ∙ ap (λ ms. record { state = record s { nodes = put n (keep_op x o) s.nodes; register = r }; lines = kept_lines n ls (keep_end x o); sends = ms }) (no_sends (is_written (keep_end x o))))

unwritten : (n : ℕ) (ls : List Line) (e : Kept) → is_written e ≡ false → kept_lines n ls e ≡ kept_lines n [] e
unwritten n ls Written h = absurd cc
unwritten n ls DiskFailed h = refl
unwritten n ls Crashed h = refl
unwritten n ls JournalFull h = refl

-- a draw that was granted, and the format that was then kept or not
granted_by : (c : Config) (s : State) (n : ℕ) (d : Drawn) → load_end (node_in s.nodes n) ≡ Written → drawn s.register n ≡ Ok d
    → formats c s n ≡ record {
      state = record s { nodes = put n (keep_op (load (node_in s.nodes n)) (ops.Format d.gen_ d.epochs)) s.nodes; register = after_draw s.register n };
      lines = kept_lines n (format_lines c n (after_draw s.register n)) (keep_end (load (node_in s.nodes n)) (ops.Format d.gen_ d.epochs));
      sends = [];
    }
granted_by c s n d e g =
    let x : Node = load (node_in s.nodes n) in
    let r : Register = after_draw s.register n in
    let a = granted_is (draw s.register n).answer (is_full s.register draw_length) (handed s.register n) d g in
    ap (formats_loaded c (with_node s n x) n) e
    ∙ (ap (formats_by c (with_node s n x) n r) a.0
    ∙ (kept_as s n x r (ops.Format (generation_of r n) (epochs_in r.logs)) (format_lines c n r)
    ∙ ap (λ (h : Drawn). record { state = record s { nodes = put n (keep_op x (ops.Format h.gen_ h.epochs)) s.nodes; register = r }; lines = kept_lines n (format_lines c n r) (keep_end x (ops.Format h.gen_ h.epochs)); sends = [] }) a.1))

format_is : (c : Config) (s : State) (n : ℕ) (f : Formatted) (y : Node) (after : Register) → FormatsAs (node_in s.nodes n) n s.register f y after
    → formats c s n ≡ record { state = record s { nodes = put n y s.nodes; register = after }; lines = told_by c n after f; sends = [] }
format_is c s n (formatted.NotLoaded k) y after h =
    not_loaded c (with_node s n (load (node_in s.nodes n))) n k (fate 1 (node_in s.nodes n).fault) h.0 h.1
    ∙ λ i. record { state = record s { nodes = put n (sym h.2 i) s.nodes; register = sym h.3 i }; lines = kept_lines n [] (shown_kept k); sends = [] }
format_is c s n (formatted.Refused f) y after h =
    ap (formats_loaded c (with_node s n (load (node_in s.nodes n))) n) h.0
    ∙ (refused_by c (with_node s n (load (node_in s.nodes n))) n (draw s.register n) (is_full s.register draw_length) (handed s.register n) f (drew s.register n).by h.1
    ∙ λ i. record { state = record s { nodes = put n (sym h.2 i) s.nodes; register = sym h.3 i }; lines = refused_line n f ∷ []; sends = [] })
format_is c s n (formatted.NotKept k) y after h =
    granted_by c s n h.drawn h.loaded h.granted
    ∙ λ i. record {
      state = record s { nodes = put n (sym h.node i) s.nodes; register = sym h.register i };
      lines = (unwritten n (format_lines c n (after_draw s.register n)) _ h.unwritten ∙ ap (kept_lines n []) (sym h.end)) i;
      sends = [];
    }
format_is c s n (formatted.Done d) y after h =
    granted_by c s n d h.loaded h.granted
    ∙ λ i. record {
      state = record s { nodes = put n (sym h.node i) s.nodes; register = sym h.register i };
      lines = (ap (kept_lines n (format_lines c n (after_draw s.register n))) h.end ∙ ap (format_lines c n) (sym h.register)) i;
      sends = [];
    }

-- ---- what was drawn ----

pub draws_as : (x : Node) (n : ℕ) (r : Register) (f : Formatted) (y : Node) (after : Register) → FormatsAs x n r f y after → Draws n after f
draws_as x n r (formatted.NotLoaded k) y after h = tt
draws_as x n r (formatted.Refused f) y after h = tt
draws_as x n r (formatted.NotKept k) y after h = tt
draws_as x n r (formatted.Done d) y after h =
    let a = granted_is (draw r n).answer (is_full r draw_length) (handed r n) d h.granted in
    (ap (λ (g : Drawn). g.gen_) (sym a.1) ∙ ap (λ q. generation_of q n) (sym h.register), ap (λ (g : Drawn). g.epochs) (sym a.1) ∙ ap (λ (q : Register). epochs_in q.logs) (sym h.register))

logs_as : (x : Node) (n : ℕ) (r : Register) (f : Formatted) (y : Node) (after : Register) → FormatsAs x n r f y after → after.logs ≡ r.logs
logs_as x n r (formatted.NotLoaded k) y after h = ap (λ (q : Register). q.logs) h.3
logs_as x n r (formatted.Refused f) y after h = ap (λ (q : Register). q.logs) h.3 ∙ (drew r n).logs
logs_as x n r (formatted.NotKept k) y after h = ap (λ (q : Register). q.logs) h.register ∙ (drew r n).logs
logs_as x n r (formatted.Done d) y after h = ap (λ (q : Register). q.logs) h.register ∙ (drew r n).logs

pub known_as : (c : Config) (x : Node) (n : ℕ) (r : Register) (f : Formatted) (y : Node) (after : Register) → FormatsAs x n r f y after → AllByRecursion (IsKnownLog c) r.logs → AllByRecursion (IsKnownLog c) after.logs
known_as c x n r f y after h o = subst (λ m. AllByRecursion (IsKnownLog c) m) (sym (logs_as x n r f y after h)) o

at_is : (l k : ℕ) → is_at (nat_cmp l) k ≡ (k == l)
at_is l k = (eq_by_cmp_equiv nat_cmp_total).symm l k ∙ tied k l

chosen_epoch : (b : Bool) (v : Epochs) (o : Option Epochs) → (if b then v.epoch else (unwrap_or o no_epochs).epoch) ≡ (unwrap_or (cond b (Some v) o) no_epochs).epoch
chosen_epoch true v o = refl
chosen_epoch false v o = refl

among_is : (c : Config) (l : ℕ) (m : List (ℕ × Epochs)) → AllByRecursion (IsKnownLog c) m → epoch_among l (epochs_in m) ≡ (unwrap_or (find l m) no_epochs).epoch
unfolding find
among_is c l [] a = refl
among_is c l (e ∷ m) a =
    ap (λ b. epoch_among l (if b then epochs_in m else (e.0, e.1.epoch) ∷ epochs_in m)) (ne_eqb e.1.epoch 0 (λ z. let one = a.0.epochs.epoch.0 in absurd (omega (arith, z))))
    ∙ (ap (λ x. if e.0 == l then e.1.epoch else x) (among_is c l m a.1)
    ∙ (chosen_epoch (e.0 == l) e.1 (find l m) ∙ ap (λ b. (unwrap_or (cond b (Some e.1) (find l m)) no_epochs).epoch) (sym (at_is l e.0))))

lost_is : (c : Config) (n : ℕ) (r : Register) (ps : List Spec) → AllByRecursion (IsKnownLog c) r.logs → lost_among n (epochs_in r.logs) ps ≡ lost_lines n r ps
lost_is c n r [] a = refl
lost_is c n r (p ∷ ps) a = λ i. lost_line n (among_is c p.log r.logs a i) p ++ lost_is c n r ps a i

-- what is told of what was drawn is what the machine tells of its register
pub told_is : (c d : Config) (n : ℕ) (r : Register) (f : Formatted) → AllByRecursion (IsKnownLog d) r.logs → Draws n r f → told_of c n f ≡ told_by c n r f
told_is c d n r (formatted.NotLoaded k) a h = refl
told_is c d n r (formatted.Refused f) a h = refl
told_is c d n r (formatted.NotKept k) a h = refl
told_is c d n r (formatted.Done w) a h = λ i. lines.NodeFormatted n (h.0 i) ∷ (ap (λ es. lost_among n es c.logs) h.1 ∙ lost_is d n r c.logs a) i

-- ---- what a cluster makes of it ----

format_yes : (c : Config) (s : State) (n : ℕ) → (has_node c n && is_blank (node_at s n).status) ≡ true → happens c s (events.Format n) ≡ formats c s n
unfolding happens
format_yes c s n h = where_yes c s n _ _ h

format_not : (c : Config) (s : State) (n : ℕ) → (has_node c n && is_blank (node_at s n).status) ≡ false → happens c s (events.Format n) ≡ unchanged s
unfolding happens
format_not c s n h = where_not c s n _ _ h

pub not_blank : (k : Cluster) (s : State) (n : ℕ) (o : Outcome) → Parts k s → (has_node (config_of k) n && is_blank (node_at s n).status) ≡ false → o.lines.items ≡ [] → o.sends ≡ [] → IsDone k k o (happens (config_of k) s (events.Format n))
not_blank k s n o p h ls ms = nothing_done k s o _ p (format_not (config_of k) s n h) ls ms

pub formatted_done : (k k' : Cluster) (s : State) (n : ℕ) (f : Formatted) (y : Node) (after : Register) (o : Outcome) → Parts k s
    → k'.config ≡ k.config → past_of k' ≡ past_of k → k'.network ≡ k.network → k'.sequencers ≡ k.sequencers → k'.readers ≡ k.readers → k'.specs ≡ k.specs
    → (has_node (config_of k) n && is_blank (node_at s n).status) ≡ true → AreHosts k.config k'.hosts (put n y s.nodes) → Foresees k'.register after → FormatsAs (node_in s.nodes n) n s.register f y after
    → o.lines.items ≡ told_by (config_of k) n after f → o.sends ≡ [] → IsDone k k' o (happens (config_of k) s (events.Format n))
formatted_done k k' s n f y after o p e g w q r x b a reg h ls ms =
    let is = format_yes (config_of k) s n b ∙ format_is (config_of k) s n f y after h in
    hosted_done k k' s (put n y s.nodes) after o _ p e g w q r x a reg (ap (λ (x : Done). x.state) is) (ls ∙ ap (λ (x : Done). x.lines) (sym is)) (ms ∙ ap (λ (x : Done). x.sends) (sym is))
