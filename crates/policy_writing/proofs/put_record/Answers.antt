use Rattle.policy_image.proofs.SizeLaws.{stride_fits}
use Rattle.policy_writing.proofs.PutLaws.{record_put}
use borrow.Author.Rules.{rules}
use Rattle.policy_writing.proofs.put_record.Goals as goal

pub put_u16-requires : goal.put_u16-requires
put_u16-requires c = search (rules, stride_fits)

pub overflow_add-at : goal.overflow_add-at
overflow_add-at c = search (rules, stride_fits)

pub put_fields-requires : goal.put_fields-requires
put_fields-requires c = search (rules, stride_fits)

pub overflow_add-at-2 : goal.overflow_add-at-2
overflow_add-at-2 c = search (rules, stride_fits)

pub put_u32-requires : goal.put_u32-requires
put_u32-requires c = search (rules, stride_fits)

pub returns : goal.returns
returns c =
    record_put c.args.r c.record_start-at.ensures c.put_u16.ensures c.put_fields.ensures c.put_u32.ensures
