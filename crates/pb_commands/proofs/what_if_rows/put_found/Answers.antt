use Rattle.pb_commands.proofs.WhatIfRows.{one_found, two_found}
use Rattle.pb_commands.proofs.what_if_rows.put_found.Goals as goal

pub returns-then-found : goal.returns-then-found
returns-then-found c = one_found c.args.change c.args.found.now c.args.rows.now.text c.put_one.new.rows.text c.if-found.true c.in_ok-put_one.ensures

pub returns : goal.returns
returns c =
    two_found c.args.change c.args.found.now c.put_one-2.result c.args.rows.now.text c.put_one.new.rows.text c.put_one-2.new.rows.text c.if-found.false
    c.in_ok-put_one.ensures c.put_one-2.ensures
