use Rattle.block0.proofs.Written.{fields_put}
use Rattle.block0.proofs.writing.put_fields.Goals as goal

pub returns : goal.returns
returns c =
    let a = c.args in
    fields_put a.version _ a.h c.early_of.ensures c.put_numbers.ensures c.put_rest.ensures c.put_late.ensures
