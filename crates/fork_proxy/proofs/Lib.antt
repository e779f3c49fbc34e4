mod FaultsTold
