-- Records that are read into a journal, and the register in memory that has it.
use Rattle.std.proofs.Common.{◌≡◌, ◌⊎◌, inl, inr, ◌<◌, ◌+◌, ◌^◌, ℕ, Bool, true, false, List, [], ◌∷◌, ◌++◌, Some, Ok, Err, length, take, drop, refl, ap, sym, ◌∙◌, subst, arith}
use Rattle.std.specs.Result.{IsErrOf, OnErr}
use Rattle.std.specs.declared.result.Result.{Result}
use Rattle.std.proofs.lemmas.List.{append-nil, take_all}
use Rattle.ld_disk.specs.Plain.{Plain, IsSound}
use Rattle.ld_disk.specs.declared.disk.Disk.{Ghosts}
use Rattle.ld_disk.specs.declared.memory.MemDisk.{MemDisk}
use Rattle.ld_disk.specs.Images.{IsHonest}
use Rattle.ld_journal.specs.Format.{framed, records, Fits}
use Rattle.ld_journal.proofs.Records.{records-push, fits-push}
use Rattle.ld_msg.specs.Register.{Register}
use Rattle.ld_register.specs.declared.disk.DiskRegister.{DiskRegister}
use Rattle.ld_register.specs.Held.{owned, Tells, Foretells, IsQuiet, never_falls}
use Rattle.ld_register.specs.Stands.{StandsFor}
use Rattle.ld_records.specs.Growth.{Grows, IsAt}
use Rattle.ld_records.specs.declared.records.RecordsFault.{RecordsFault}
use Rattle.ld_records.specs.declared.records.RecordsFault.TheVariants as causes
use Rattle.ld_register.specs.declared.fault.RegisterFault.{RegisterFault}
use Rattle.ld_register.specs.declared.fault.RegisterFault.TheVariants as faults
use Rattle.ld_shared.specs.Bodies.{bodies_of}
use Rattle.ld_shared.specs.Fresh.{HasRead, IsCopyOf}
use Rattle.ld_shared.specs.Holds.{OnlyMemory}
use Rattle.ld_shared.specs.Says.{refusal}
use Rattle.ld_shared.proofs.Growing.{at_below, bodies_more, grows_length, take_grows}

pub none_read : (xs : List (List ℕ)) (bytes : List ℕ) → bytes ≡ [] → HasRead 0 xs bytes
none_read xs bytes is = record { there = omega arith; bytes_are = is; fits = λ k d less. absurd (omega (arith, less)) }

pub read_grows : (n : ℕ) (xs ys : List (List ℕ)) (bytes : List ℕ) → Grows xs ys → HasRead n xs bytes → HasRead n ys bytes
read_grows n xs ys bytes g h = let same = sym (take_grows n xs ys h.there g) in record {
  there = let l = grows_length xs ys g in let m = h.there in omega arith;
  bytes_are = subst (λ l. bytes ≡ records (bodies_of l)) same h.bytes_are;
  fits = subst (λ l. Fits (bodies_of l)) same h.fits;
}

pub read_more : (n : ℕ) (xs : List (List ℕ)) (bytes new body value : List ℕ) → HasRead n xs bytes → IsAt n value xs → body ≡ drop 24 value → length body < 2 ^ 32 → new ≡ bytes ++ framed body → HasRead (n + 1) xs new
read_more n xs bytes new body value h at is short has =
    let more : bodies_of (take (n + 1) xs) ≡ bodies_of (take n xs) ++ body ∷ [] = bodies_more n value xs at ∙ ap (λ b. bodies_of (take n xs) ++ b ∷ []) (sym is) in
    let push : records (bodies_of (take n xs) ++ body ∷ []) ≡ records (bodies_of (take n xs)) ++ framed body =
    sym (append-nil (records (bodies_of (take n xs) ++ body ∷ []))) ∙ records-push (bodies_of (take n xs)) body [] ∙ ap (λ l. records (bodies_of (take n xs)) ++ l) (append-nil (framed body)) in record {
      there = let l = at_below n value xs at in omega arith;
      bytes_are = has ∙ ap (λ l. l ++ framed body) h.bytes_are ∙ sym push ∙ ap records (sym more);
      fits = subst (λ l. Fits l) (sym more) (fits-push (bodies_of (take n xs)) body h.fits short);
    }

pub is_copy : {g : Ghosts MemDisk} (values : List (List ℕ)) (bytes journal : List ℕ) (n : ℕ) (disk : MemDisk) (copy : DiskRegister MemDisk g) (p : Plain)
    → HasRead n values bytes → n ≡ length values → journal ≡ bytes ++ 0 ∷ [] → owned copy ≡ disk → g.seen disk ≡ Some p.state.bytes → g.plain disk ≡ Some p → p.state.bytes ≡ journal → IsQuiet p
    → (IsHonest (g.seen disk) → Tells copy)
    → ((c : Register) (q : Plain) → g.plain disk ≡ Some q → IsQuiet q → StandsFor q.state.bytes c → Foretells copy c)
    → IsCopyOf values copy
is_copy {g = g} values bytes journal n disk copy p h all is owns seen plain at quiet told tells =
    let whole : take n values ≡ values = take_all n values (omega (arith, all)) in
    let same : p.state.bytes ≡ records (bodies_of values) ++ 0 ∷ [] = at ∙ is ∙ ap (λ l. l ++ 0 ∷ []) (h.bytes_are ∙ ap (λ l. records (bodies_of l)) whole) in record {
      bytes = ap g.seen owns ∙ seen ∙ ap (λ b. Some b) same;
      fits = subst (λ l. Fits (bodies_of l)) whole h.fits;
      tells = told (subst (λ o. IsHonest o) (sym seen) refl);
      foretells = λ c stands. tells c p plain quiet (subst (λ b. StandsFor b c) (sym same) stands);
    }

pub read_length : (n m : ℕ) (values : List (List ℕ)) (bytes : List ℕ) → HasRead n values bytes → n ≡ length values → m ≡ length bytes → m ≡ length (records (bodies_of values))
read_length n m values bytes h all is = is ∙ ap length (h.bytes_are ∙ ap (λ l. records (bodies_of l)) (take_all n values (omega (arith, all))))

pub sound_quiet : (p : Plain) → IsSound p → IsQuiet p
sound_quiet p s = record { stands = s.stands; told = ap (λ a. never_falls a) s.told }

-- ---- refusals of records to which nobody else appends ----

abbrev pub cause_of : RecordsFault → Result Bool RecordsFault
cause_of cause = Err cause

-- a refusal that is passed on
pub memory_passed : {T S : Type 0} (r : Result T RegisterFault) (f : RegisterFault) → IsErrOf r f → OnlyMemory (refusal {T = S} f) → OnlyMemory r
memory_passed {S = S} r f is none = subst (λ o. OnlyMemory o) (sym is) (ap (λ e. refusal e) (one_fault {T = S} f faults.NoMemory none))
  where
    one_fault : {T : Type 0} (e d : RegisterFault) → refusal {T = T} e ≡ refusal {T = T} d → e ≡ d
    one_fault e d same = cc

pub only_memory : {T : Type 0} (cause : RecordsFault) (fault : RegisterFault) → (cause ≡ causes.NoMemory → fault ≡ faults.NoMemory)
    → (cause_of cause ≡ Ok true) ⊎ (cause_of cause ≡ Ok false) ⊎ (cause_of cause ≡ Err causes.NoMemory) → OnlyMemory (refusal {T = T} fault)
only_memory cause fault passed alone = elim alone [ inl e ↦ absurd (cc e) | inr rest ↦ (elim rest [ inl e ↦ absurd (cc e) | inr e ↦ ap (λ f. refusal f) (passed (cc e)) ]) ]
