use Rattle.rasn_ldap.proofs.protocol_op.ProtocolOpEncode.encode_with_tag_and_constraints.Goals as goal

pub returns-in-BindRequest-clause-ok : goal.returns-in-BindRequest-clause-ok
returns-in-BindRequest-clause-ok c = rw c.in-BindRequest.is c.write_choice.ensures.ok

pub returns-in-BindRequest-clause-refused : goal.returns-in-BindRequest-clause-refused
returns-in-BindRequest-clause-refused c = rw c.in-BindRequest.is c.write_choice.ensures.refused

pub returns-in-BindResponse-clause-ok : goal.returns-in-BindResponse-clause-ok
returns-in-BindResponse-clause-ok c = rw c.in-BindResponse.is c.write_choice-in-BindResponse.ensures.ok

pub returns-in-BindResponse-clause-refused : goal.returns-in-BindResponse-clause-refused
returns-in-BindResponse-clause-refused c = rw c.in-BindResponse.is c.write_choice-in-BindResponse.ensures.refused

pub returns-in-UnbindRequest-clause-ok : goal.returns-in-UnbindRequest-clause-ok
returns-in-UnbindRequest-clause-ok c = rw c.in-UnbindRequest.is c.write_choice-in-UnbindRequest.ensures.ok

pub returns-in-UnbindRequest-clause-refused : goal.returns-in-UnbindRequest-clause-refused
returns-in-UnbindRequest-clause-refused c = rw c.in-UnbindRequest.is c.write_choice-in-UnbindRequest.ensures.refused

pub returns-in-SearchRequest-clause-ok : goal.returns-in-SearchRequest-clause-ok
returns-in-SearchRequest-clause-ok c = rw c.in-SearchRequest.is c.write_choice-in-SearchRequest.ensures.ok

pub returns-in-SearchRequest-clause-refused : goal.returns-in-SearchRequest-clause-refused
returns-in-SearchRequest-clause-refused c = rw c.in-SearchRequest.is c.write_choice-in-SearchRequest.ensures.refused

pub returns-in-SearchResEntry-clause-ok : goal.returns-in-SearchResEntry-clause-ok
returns-in-SearchResEntry-clause-ok c = rw c.in-SearchResEntry.is c.write_choice-in-SearchResEntry.ensures.ok

pub returns-in-SearchResEntry-clause-refused : goal.returns-in-SearchResEntry-clause-refused
returns-in-SearchResEntry-clause-refused c = rw c.in-SearchResEntry.is c.write_choice-in-SearchResEntry.ensures.refused

pub returns-in-SearchResDone-clause-ok : goal.returns-in-SearchResDone-clause-ok
returns-in-SearchResDone-clause-ok c = rw c.in-SearchResDone.is c.write_choice-in-SearchResDone.ensures.ok

pub returns-in-SearchResDone-clause-refused : goal.returns-in-SearchResDone-clause-refused
returns-in-SearchResDone-clause-refused c = rw c.in-SearchResDone.is c.write_choice-in-SearchResDone.ensures.refused

pub returns-in-SearchResRef-clause-ok : goal.returns-in-SearchResRef-clause-ok
returns-in-SearchResRef-clause-ok c = rw c.in-SearchResRef.is c.write_choice-in-SearchResRef.ensures.ok

pub returns-in-SearchResRef-clause-refused : goal.returns-in-SearchResRef-clause-refused
returns-in-SearchResRef-clause-refused c = rw c.in-SearchResRef.is c.write_choice-in-SearchResRef.ensures.refused

pub returns-in-ModifyRequest-clause-ok : goal.returns-in-ModifyRequest-clause-ok
returns-in-ModifyRequest-clause-ok c = rw c.in-ModifyRequest.is c.write_choice-in-ModifyRequest.ensures.ok

pub returns-in-ModifyRequest-clause-refused : goal.returns-in-ModifyRequest-clause-refused
returns-in-ModifyRequest-clause-refused c = rw c.in-ModifyRequest.is c.write_choice-in-ModifyRequest.ensures.refused

pub returns-in-ModifyResponse-clause-ok : goal.returns-in-ModifyResponse-clause-ok
returns-in-ModifyResponse-clause-ok c = rw c.in-ModifyResponse.is c.write_choice-in-ModifyResponse.ensures.ok

pub returns-in-ModifyResponse-clause-refused : goal.returns-in-ModifyResponse-clause-refused
returns-in-ModifyResponse-clause-refused c = rw c.in-ModifyResponse.is c.write_choice-in-ModifyResponse.ensures.refused

pub returns-in-AddRequest-clause-ok : goal.returns-in-AddRequest-clause-ok
returns-in-AddRequest-clause-ok c = rw c.in-AddRequest.is c.write_choice-in-AddRequest.ensures.ok

pub returns-in-AddRequest-clause-refused : goal.returns-in-AddRequest-clause-refused
returns-in-AddRequest-clause-refused c = rw c.in-AddRequest.is c.write_choice-in-AddRequest.ensures.refused

pub returns-in-AddResponse-clause-ok : goal.returns-in-AddResponse-clause-ok
returns-in-AddResponse-clause-ok c = rw c.in-AddResponse.is c.write_choice-in-AddResponse.ensures.ok

pub returns-in-AddResponse-clause-refused : goal.returns-in-AddResponse-clause-refused
returns-in-AddResponse-clause-refused c = rw c.in-AddResponse.is c.write_choice-in-AddResponse.ensures.refused

pub returns-in-DelRequest-clause-ok : goal.returns-in-DelRequest-clause-ok
returns-in-DelRequest-clause-ok c = rw c.in-DelRequest.is c.write_choice-in-DelRequest.ensures.ok

pub returns-in-DelRequest-clause-refused : goal.returns-in-DelRequest-clause-refused
returns-in-DelRequest-clause-refused c = rw c.in-DelRequest.is c.write_choice-in-DelRequest.ensures.refused

pub returns-in-DelResponse-clause-ok : goal.returns-in-DelResponse-clause-ok
returns-in-DelResponse-clause-ok c = rw c.in-DelResponse.is c.write_choice-in-DelResponse.ensures.ok

pub returns-in-DelResponse-clause-refused : goal.returns-in-DelResponse-clause-refused
returns-in-DelResponse-clause-refused c = rw c.in-DelResponse.is c.write_choice-in-DelResponse.ensures.refused

pub returns-in-ModDnRequest-clause-ok : goal.returns-in-ModDnRequest-clause-ok
returns-in-ModDnRequest-clause-ok c = rw c.in-ModDnRequest.is c.write_choice-in-ModDnRequest.ensures.ok

pub returns-in-ModDnRequest-clause-refused : goal.returns-in-ModDnRequest-clause-refused
returns-in-ModDnRequest-clause-refused c = rw c.in-ModDnRequest.is c.write_choice-in-ModDnRequest.ensures.refused

pub returns-in-ModDnResponse-clause-ok : goal.returns-in-ModDnResponse-clause-ok
returns-in-ModDnResponse-clause-ok c = rw c.in-ModDnResponse.is c.write_choice-in-ModDnResponse.ensures.ok

pub returns-in-ModDnResponse-clause-refused : goal.returns-in-ModDnResponse-clause-refused
returns-in-ModDnResponse-clause-refused c = rw c.in-ModDnResponse.is c.write_choice-in-ModDnResponse.ensures.refused

pub returns-in-CompareRequest-clause-ok : goal.returns-in-CompareRequest-clause-ok
returns-in-CompareRequest-clause-ok c = rw c.in-CompareRequest.is c.write_choice-in-CompareRequest.ensures.ok

pub returns-in-CompareRequest-clause-refused : goal.returns-in-CompareRequest-clause-refused
returns-in-CompareRequest-clause-refused c = rw c.in-CompareRequest.is c.write_choice-in-CompareRequest.ensures.refused

pub returns-in-CompareResponse-clause-ok : goal.returns-in-CompareResponse-clause-ok
returns-in-CompareResponse-clause-ok c = rw c.in-CompareResponse.is c.write_choice-in-CompareResponse.ensures.ok

pub returns-in-CompareResponse-clause-refused : goal.returns-in-CompareResponse-clause-refused
returns-in-CompareResponse-clause-refused c = rw c.in-CompareResponse.is c.write_choice-in-CompareResponse.ensures.refused

pub returns-in-AbandonRequest-clause-ok : goal.returns-in-AbandonRequest-clause-ok
returns-in-AbandonRequest-clause-ok c = rw c.in-AbandonRequest.is c.write_choice-in-AbandonRequest.ensures.ok

pub returns-in-AbandonRequest-clause-refused : goal.returns-in-AbandonRequest-clause-refused
returns-in-AbandonRequest-clause-refused c = rw c.in-AbandonRequest.is c.write_choice-in-AbandonRequest.ensures.refused

pub returns-in-ExtendedReq-clause-ok : goal.returns-in-ExtendedReq-clause-ok
returns-in-ExtendedReq-clause-ok c = rw c.in-ExtendedReq.is c.write_choice-in-ExtendedReq.ensures.ok

pub returns-in-ExtendedReq-clause-refused : goal.returns-in-ExtendedReq-clause-refused
returns-in-ExtendedReq-clause-refused c = rw c.in-ExtendedReq.is c.write_choice-in-ExtendedReq.ensures.refused

pub returns-in-ExtendedResp-clause-ok : goal.returns-in-ExtendedResp-clause-ok
returns-in-ExtendedResp-clause-ok c = rw c.in-ExtendedResp.is c.write_choice-in-ExtendedResp.ensures.ok

pub returns-in-ExtendedResp-clause-refused : goal.returns-in-ExtendedResp-clause-refused
returns-in-ExtendedResp-clause-refused c = rw c.in-ExtendedResp.is c.write_choice-in-ExtendedResp.ensures.refused

pub returns-in-IntermediateResponse-clause-ok : goal.returns-in-IntermediateResponse-clause-ok
returns-in-IntermediateResponse-clause-ok c = rw c.in-IntermediateResponse.is c.write_choice-in-IntermediateResponse.ensures.ok

pub returns-in-IntermediateResponse-clause-refused : goal.returns-in-IntermediateResponse-clause-refused
returns-in-IntermediateResponse-clause-refused c = rw c.in-IntermediateResponse.is c.write_choice-in-IntermediateResponse.ensures.refused

pub returns-in-Unknown-clause-ok : goal.returns-in-Unknown-clause-ok
returns-in-Unknown-clause-ok c = rw c.in-Unknown.is c.write_choice-in-Unknown.ensures.ok

pub returns-in-Unknown-clause-refused : goal.returns-in-Unknown-clause-refused
returns-in-Unknown-clause-refused c = rw c.in-Unknown.is c.write_choice-in-Unknown.ensures.refused
