-- A presenter that has printed nothing.
use Rattle.std.proofs.Common.{◌≡◌, [], None, refl, subst}
use Rattle.audit_advisory.specs.declared.outputs.OutputConfig.{OutputConfig}
use Rattle.audit_report.specs.declared.presenters.Presenter.{Presenter}

pub fresh : (p : Presenter) (config : OutputConfig) → p.config ≡ config → p.trees ≡ [] → p.symbols ≡ None → p ≡ record { config = config; trees = []; symbols = None }
fresh p config configured shown kept =
    subst (λ c. p ≡ record { config = c; trees = []; symbols = None }) configured
    (subst (λ t. p ≡ record { config = p.config; trees = t; symbols = None }) shown
    (subst (λ s. p ≡ record { config = p.config; trees = p.trees; symbols = s }) kept refl))
