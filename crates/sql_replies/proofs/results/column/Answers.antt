use Rattle.std.proofs.Common.{◌≤◌, length, arith, ap}
use Rattle.sql_replies.proofs.Fits.{definition_fits}
use Rattle.sql_replies.proofs.results.column.Goals as goal

pub returns-clause-fits : goal.returns-clause-fits
returns-clause-fits c =
    let schema : length c.in_ok-from_str.field-0 ≤ 64 = omega (arith, ap length c.in_ok-from_str.ensures) in
    definition_fits
    (record {
      schema = c.in_ok-from_str.field-0;
      table = c.in_ok-name_text.field-0;
      org_table = c.in_ok-name_text-2.field-0;
      name = c.in_ok-name_text-3.field-0;
      org_name = c.in_ok-name_at.field-0;
      charset = c.charset.result;
      length = c.longest.result;
      kind = c.type_byte.result;
      flags = c.flags.result;
    })
    schema
    c.in_ok-name_text.ensures.short
    c.in_ok-name_text-2.ensures.short
    c.in_ok-name_text-3.ensures.short
    c.in_ok-name_at.ensures.short
