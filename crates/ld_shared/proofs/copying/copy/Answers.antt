use Rattle.std.proofs.Common.{inl, ap, sym, ◌∙◌, subst, refl, map}
use Rattle.ld_register.specs.Stands.{StandsFor}
use Rattle.ld_shared.specs.Copies.{AreCopies, MakesAlone}
use Rattle.ld_shared.proofs.Copied.{alone_unmade, copies_alone, err_of, is_copied, length_values, memory_as, stands_by}
use Rattle.ld_shared.proofs.copying.copy.Goals as goal

pub returns-in_err-values-clause-alone : goal.returns-in_err-values-clause-alone
returns-in_err-values-clause-alone g c bytes bodies d sole seen journal leads =
    let same = c.deref.ensures.value ∙ c.in_ok-bytes.ensures.bytes bytes seen in
    (sole, alone_unmade _ _ _ _ refl (inl (memory_as c.from_residual-in_err-values.result c.in_err-values.field-0.0 (err_of c.from_residual-in_err-values.result c.in_err-values.field-0.0 c.from_residual-in_err-values.ensures.1) (c.in_err-values.ensures.whole d (subst (λ b. StandsFor b d) (sym same) (stands_by bytes bodies d journal leads))))))

pub returns-clause-copied : goal.returns-clause-copied
returns-clause-copied g c n bytes is seen =
    let same = c.deref.ensures.value ∙ c.in_ok-bytes.ensures.bytes bytes seen in
    let a = c.make_all.ensures.all n is in
    let s = c.in_ok-values.ensures.stands in
    is_copied bytes n (map (λ v. v.items) c.in_ok-values.values.items) _ s.0 (subst (λ b. AreCopies b (map (λ v. v.items) c.in_ok-values.values.items)) same c.in_ok-values.ensures.values) (subst (λ b. StandsFor b s.0) same s.1)
    (length_values _ _ _ (λ v. v.items) a.0 c.deref-2.ensures.value) (a.1 ∙ ap (λ l. map (λ v. v.items) l) c.deref-2.ensures.value)

pub returns-clause-alone : goal.returns-clause-alone
returns-clause-alone g c bytes bodies d sole seen journal leads =
    let same = c.deref.ensures.value ∙ c.in_ok-bytes.ensures.bytes bytes seen in
    let m = c.make_all.ensures.alone sole in (
      m.0,
      copies_alone bytes bodies (map (λ v. v.items) c.in_ok-values.values.items) _ _ _ (subst (λ b. AreCopies b (map (λ v. v.items) c.in_ok-values.values.items)) same c.in_ok-values.ensures.values) journal
          (subst (λ l. MakesAlone (map (λ v. v.items) l) (g.C.Records.list c.args.to.now) (g.C.Records.list c.make_all.new.to) c.make_all.result) c.deref-2.ensures.value m.1),
    )
