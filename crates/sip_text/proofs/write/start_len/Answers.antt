use Rattle.sip_text.proofs.write.start_len.Goals as goal

pub returns-in-Response : goal.returns-in-Response
returns-in-Response c = rw c.in-Response.is (c.status_line_len.ensures c.in-Response.status)
