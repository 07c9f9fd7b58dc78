use Rattle.std.proofs.Common.{◌∙◌, ap, get_or, drop, ℕ, List}
use Rattle.std.proofs.lemmas.List.{get_or-take, get_or-drop}
use Rattle.plan.specs.Inner.Regions.{alike_start, event_entries}
use Rattle.plan.proofs.leads.alike_in.Goals as goal

pub returns : goal.returns
returns c =
    let plan = c.args.plan.now in
    record {
      size = c.copy_from_slice.ensures.len;
      same = λ e h. ap (λ (l : List ℕ). get_or l e 0) c.copy_from_slice.ensures.after
          ∙ get_or-take event_entries (drop alike_start plan) e 0 h ∙ get_or-drop alike_start plan e 0;
    }
