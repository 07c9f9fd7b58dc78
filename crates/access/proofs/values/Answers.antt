use Rattle.access.proofs.values.Goals as goal

pub returns : goal.returns
returns c =
    λ i. record {
      alpha = c.alpha.ensures i;
      rho1 = c.rho.ensures i;
      rho2 = c.rho-2.ensures i;
      mu1 = c.mu.ensures i;
      mu2 = c.mu-2.ensures i;
      chi = c.chi.ensures i;
      rule = c.role_rule.ensures i;
    }
