use mathlib.Core.Path.{refl}
use Rattle.plan.proofs.NamedLaws.{links_begin, links_join, links_end}
use native.Mathlib.Omega.{arith}
use Rattle.plan.proofs.named.put_links.Goals as goal

pub loop-k-init : goal.loop-k-init
loop-k-init c =
    (omega arith, record { lists = links_begin (λ i h. c.clear.ensures.here i (omega arith) h); below = λ i h. refl })

pub loop-k-preserved : goal.loop-k-preserved
loop-k-preserved c = (omega arith, links_join c.loop-k.invariant.1 c.link.ensures)

pub returns : goal.returns
returns c = links_end c.clear.ensures c.loop-k.invariant.1 (omega (arith, c.record_count-count.ensures))
